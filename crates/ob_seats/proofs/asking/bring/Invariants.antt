-- What leads from the open that waited at first to the one that waits now.
use Rattle.std.proofs.Common.{◌≡◌}
use Rattle.ob_seats.proofs.Chained.{GoesOn}
use Rattle.ob_seats.proofs.asking.bring.Given as goal

abbrev pub invariant-loop : goal.invariant-loop
invariant-loop g l =
    GoesOn (g.C.Callers.receipts l.fn.pass) (g.C.Callers.ticket_of l.fn.parsing) (g.C.Callers.receipts l.pass) (g.C.Callers.ticket_of l.parsing)
    × (g.C.Callers.seat_of l.pass ≡ g.C.Callers.seat_of l.fn.pass)
