-- The process of the variable that is set is the one that room was made for.
use Rattle.std.proofs.Common.{OnOk, ap, sym, subst, ◌∙◌}
use Rattle.ob_lines.specs.Changes.{change_seen}
use Rattle.ob_requests.specs.Room.{HasRoomFor}
use Rattle.ob_requests.specs.Tables.{HasRoom}
use Rattle.ob_requests.specs.Variables.{Variables}
use Rattle.ob_requests.proofs.variables.Variables.make_room.Goals as goal

pub returns-in-SetsFor-clause-room : goal.returns-in-SetsFor-clause-room
returns-in-SetsFor-clause-room c =
    let new = c.room_for_variable-in-SetsFor.new.self in
    subst (λ ch. OnOk c.room_for_variable-in-SetsFor.result (HasRoomFor new c.args.process (change_seen ch))) (sym c.in-SetsFor.is)
    (subst (λ to. OnOk c.room_for_variable-in-SetsFor.result (HasRoom new.handles to c.in-SetsFor.variable.now))
    (c.process_of-to.ensures ∙ ap (λ (w : Variables). w.processes c.in-SetsFor.to.now) (sym c.room_for_variable-in-SetsFor.ensures.same)) c.room_for_variable-in-SetsFor.ensures.room)
