-- A room is `0` alone, or begins with another digit.
use Rattle.std.proofs.Common.{arith}
use Rattle.ob_parts.proofs.Readings.{told_apart}
use Rattle.ob_parts.proofs.Paged.{room_first, room_some, zero_room}
use Rattle.ob_parts.proofs.page.room_of.Goals as goal

pub returns-then-eq-clause-found : goal.returns-then-eq-clause-found
returns-then-eq-clause-found c = zero_room _ _ _ c.if-eq.true c.eq.ensures c.as_slice.ensures

pub returns-in_err-first-clause-none : goal.returns-in_err-first-clause-none
returns-in_err-first-clause-none c =
    rw c.from_residual.ensures (λ room is. omega (arith, room_some _ room is, c.in_err-first.ensures.item.3))

pub returns-in_default-clause-none : goal.returns-in_default-clause-none
returns-in_default-clause-none c = λ room is.
    let first = room_first _ room (told_apart _ _ _ _ c.if-eq.false c.eq.ensures c.as_slice.ensures) is in
    omega (arith, first, c.in_ok-first.ensures.item.3.1 0, c.in_default)

pub returns-in_default-2-clause-none : goal.returns-in_default-2-clause-none
returns-in_default-2-clause-none c = λ room is.
    let first = room_first _ room (told_apart _ _ _ _ c.if-eq.false c.eq.ensures c.as_slice.ensures) is in
    omega (arith, first, c.in_ok-first.ensures.item.3.1 0, c.in_default)
