-- Room is made first; where that isn't written, a beginning of the block stands.
use Rattle.ob_output.proofs.Writers.{at_err, front-append}
use Rattle.ob_output.proofs.Gathered.{gathers_room}
use Rattle.ob_output.proofs.gathering.gather.Goals as goal

pub returns-in_err-make_room-clause-front : goal.returns-in_err-make_room-clause-front
returns-in_err-make_room-clause-front g c =
    at_err c.from_residual.result _
    (front-append (g.W.Write.contents c.args.writer.now) (g.W.Write.contents c.make_room.new.writer) c.args.block.now.items c.args.bytes.now c.in_err-make_room.ensures.front)

pub returns-clause-ok : goal.returns-clause-ok
returns-clause-ok g c =
    gathers_room (g.W.Write.contents c.args.writer.now) (g.W.Write.contents c.make_room.new.writer) c.args.block.now.items c.make_room.new.block.items c.args.bytes.now _
    c.in_ok-make_room.ensures.ok c.in-Ok.ensures.items
