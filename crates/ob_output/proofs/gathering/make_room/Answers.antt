-- Where there is no room, the block is written whole and emptied, or a beginning of it stands.
use Rattle.std.proofs.Common.{subst}
use Rattle.ob_output.specs.Writing.{AppendsFront}
use Rattle.ob_output.proofs.Writers.{at_err}
use Rattle.ob_output.proofs.gathering.make_room.Goals as goal

pub returns-in_err-write_out-clause-front : goal.returns-in_err-write_out-clause-front
returns-in_err-write_out-clause-front g c =
    at_err c.from_residual.result _
    (subst (λ x. AppendsFront (g.W.Write.contents c.args.writer.now) (g.W.Write.contents c.write_out.new.writer) x) c.as_slice.ensures.value c.in_err-write_out.ensures.front)
