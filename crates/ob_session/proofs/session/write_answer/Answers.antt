-- What the block has is written after what was.
use Rattle.std.proofs.Common.{Result, Ok, Err, IfErr, subst}
use Rattle.std.specs.Io.KnownBytes.{Appends}
use Rattle.ob_output.specs.Writing.{AppendsFront}
use Rattle.ob_output.proofs.Gathered.{gathers_out, gathers_out_front}
use Rattle.ob_session.proofs.session.write_answer.Goals as goal

on_any_err : {T E : Type 0} (P : Type 0) (r : Result T E) → P → IfErr r (λ _. P)
on_any_err P (Ok x) h = tt
on_any_err P (Err e) h = h

pub returns-in_err-write_out-clause-front : goal.returns-in_err-write_out-clause-front
returns-in_err-write_out-clause-front g c =
    let old = g.W.Write.contents c.args.writer.now in
    let mid = g.W.Write.contents c.gather_answer.new.writer in
    let answer = c.in_ok-gather_answer.ensures.ok in
    on_any_err _ c.from_residual-in_err-write_out.result (
      answer.0,
      answer.1,
      gathers_out_front old mid (g.W.Write.contents c.write_out.new.writer) answer.0 c.gather_answer.new.block.items answer.2
          (subst (AppendsFront mid (g.W.Write.contents c.write_out.new.writer)) c.as_slice.ensures.value c.in_err-write_out.ensures.front),
    )

pub returns-clause-ok : goal.returns-clause-ok
returns-clause-ok g c =
    let old = g.W.Write.contents c.args.writer.now in
    let mid = g.W.Write.contents c.gather_answer.new.writer in
    let answer = c.in_ok-gather_answer.ensures.ok in (
      answer.0,
      answer.1,
      gathers_out old mid (g.W.Write.contents c.write_out.new.writer) answer.0 c.gather_answer.new.block.items answer.2
          (subst (Appends mid (g.W.Write.contents c.write_out.new.writer)) c.as_slice.ensures.value c.in_ok-write_out.ensures.ok),
    )
