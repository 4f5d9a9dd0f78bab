-- The line is its beginning, what is given and LF; where a write fails, a beginning of it is.
use Rattle.std.proofs.Common.{codes, refl}
use Rattle.ob_output.specs.Printed.{given_text}
use Rattle.ob_output.proofs.Writers.{at_err, at_err_weaker, front-append}
use Rattle.ob_output.proofs.Gathered.{gathers_room, at_ok_weaker}
use Rattle.ob_scripts.proofs.Listed.{left_more, left_first, left_all, left_front, reply_begun}
use Rattle.ob_scripts.proofs.printing.write_reply.Goals as goal

pub returns-in_err-make_room-clause-front : goal.returns-in_err-make_room-clause-front
returns-in_err-make_room-clause-front g c =
    at_err c.from_residual.result _
    (front-append (g.W.Write.contents c.args.writer.now) (g.W.Write.contents c.make_room.new.writer) c.args.block.now.items _ c.in_err-make_room.ensures.front)

pub returns-in_err-write_given-clause-front : goal.returns-in_err-write_given-clause-front
returns-in_err-write_given-clause-front g c =
    at_err c.from_residual-in_err-write_given.result _
    (left_first (given_text c.args.reply.now.given) (codes "\n")
    (reply_begun c.args.number c.args.reply.now _ refl
    (gathers_room (g.W.Write.contents c.args.writer.now) (g.W.Write.contents c.make_room.new.writer) c.args.block.now.items c.make_room.new.block.items _ _
    c.in_ok-make_room.ensures.ok c.push_status_front.ensures.items))
    c.in_err-write_given.ensures.front)

pub returns-clause-ok : goal.returns-clause-ok
returns-clause-ok g c =
    at_ok_weaker c.gather.result _ _
    (left_all (codes "\n") _ refl
    (left_more (given_text c.args.reply.now.given) (codes "\n")
    (reply_begun c.args.number c.args.reply.now _ refl
    (gathers_room (g.W.Write.contents c.args.writer.now) (g.W.Write.contents c.make_room.new.writer) c.args.block.now.items c.make_room.new.block.items _ _
    c.in_ok-make_room.ensures.ok c.push_status_front.ensures.items))
    c.in_ok-write_given.ensures.ok))
    c.gather.ensures.ok

pub returns-clause-front : goal.returns-clause-front
returns-clause-front g c =
    at_err_weaker c.gather.result _ _
    (left_front (codes "\n") _ refl
    (left_more (given_text c.args.reply.now.given) (codes "\n")
    (reply_begun c.args.number c.args.reply.now _ refl
    (gathers_room (g.W.Write.contents c.args.writer.now) (g.W.Write.contents c.make_room.new.writer) c.args.block.now.items c.make_room.new.block.items _ _
    c.in_ok-make_room.ensures.ok c.push_status_front.ensures.items))
    c.in_ok-write_given.ensures.ok))
    c.gather.ensures.front
