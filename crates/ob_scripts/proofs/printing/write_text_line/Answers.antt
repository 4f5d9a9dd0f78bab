-- Room is made first; where that isn't written, a beginning of the block is.
use Rattle.ob_output.proofs.Writers.{at_err, front-append}
use Rattle.ob_scripts.proofs.printing.write_text_line.Goals as goal

pub returns-in_err-make_room-clause-front : goal.returns-in_err-make_room-clause-front
returns-in_err-make_room-clause-front g c =
    at_err c.from_residual.result _
    (front-append (g.W.Write.contents c.args.writer.now) (g.W.Write.contents c.make_room.new.writer) c.args.block.now.items _ c.in_err-make_room.ensures.front)
