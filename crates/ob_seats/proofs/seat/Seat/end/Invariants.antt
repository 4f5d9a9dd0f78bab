-- What was given up so far.
use Rattle.std.proofs.Common.{◌≡◌, true, length}
use Rattle.ob_seats.proofs.Playing.{AreGoing, AreLeaving}
use Rattle.ob_seats.proofs.seat.Seat.end.Given as goal

abbrev pub invariant-loop-parsing : goal.invariant-loop-parsing
invariant-loop-parsing g l =
    (l.is_whole ≡ true → AreGoing l.fn.self.waits l.waits (g.C.Callers.receipts l.fn.pass) (g.C.Callers.receipts l.pass))
    × AreLeaving l.fn.self.waits l.waits (g.C.Callers.receipts l.fn.pass) (g.C.Callers.receipts l.pass)
    × (g.C.Callers.seat_of l.pass ≡ g.C.Callers.seat_of l.fn.pass)

abbrev pub decreases-loop-parsing : goal.decreases-loop-parsing
decreases-loop-parsing g l = length l.waits
