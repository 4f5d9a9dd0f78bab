-- Bytes that stand where a room does, and are none, begin with no room.
use Rattle.ob_parts.proofs.Paged.{room_parts}
use Rattle.ob_parts.proofs.page.take_room.Goals as goal

pub returns-in_err-room-clause-none : goal.returns-in_err-room-clause-none
returns-in_err-room-clause-none c =
    rw c.from_residual-in_err-room.ensures
    (λ n r b. c.in_err-room.ensures.none n (room_parts _ _ _ n r c.in_ok-spelled.ensures.found.0 c.in_ok-spelled.ensures.found.1 b).0)
