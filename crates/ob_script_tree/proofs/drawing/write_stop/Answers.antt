-- What the block has is written after what was.
use Rattle.std.proofs.Common.{subst}
use Rattle.ob_output.specs.Gathering.{Gathers}
use Rattle.ob_output.specs.Writing.{AppendsFront}
use Rattle.ob_output.proofs.Gathered.{gathers_out_front}
use Rattle.ob_scripts.specs.Running.{outcome_text}
use Rattle.ob_script_tree.proofs.drawing.write_stop.Goals as goal

pub returns-in-Ok-write_outcome-clause-cut : goal.returns-in-Ok-write_outcome-clause-cut
returns-in-Ok-write_outcome-clause-cut g c =
    let old = g.W.Write.contents c.args.writer.now in
    let mid = g.W.Write.contents c.write_outcome.new.writer in
    let new = g.W.Write.contents c.write_out.new.writer in
    let text = outcome_text c.args.stop.now.number c.args.stop.now.outcome in
    let has = c.write_outcome.new.block.items in
    gathers_out_front old mid new text has (subst (λ had. Gathers old mid had text has) c.in-Ok.ensures.items c.in-Ok-write_outcome.ensures.ok)
    (subst (AppendsFront mid new) c.as_slice.ensures.value c.in-Err-write_out.ensures.front)
