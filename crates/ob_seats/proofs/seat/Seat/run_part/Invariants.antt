-- What was played so far.
use Rattle.std.proofs.Common.{◌≡◌, length}
use Rattle.ob_requests.specs.Tables.{variables_in}
use Rattle.ob_seats.specs.Kept.{AreHeld}
use Rattle.ob_seats.proofs.Playing.{IsPlaying}
use Rattle.ob_seats.proofs.seat.Seat.run_part.Given as goal

abbrev pub invariant-loop-form : goal.invariant-loop-form
invariant-loop-form g l =
    IsPlaying l.fn.part.text.now l.fn.part.first (variables_in l.fn.self.variables) (g.C.Callers.receipts l.fn.pass) l.rest l.number (variables_in l.self.variables) (g.C.Callers.receipts l.pass)
    × AreHeld (variables_in l.self.variables).tickets l.self.waits
    × (g.C.Callers.seat_of l.pass ≡ g.C.Callers.seat_of l.fn.pass)

abbrev pub decreases-loop-form : goal.decreases-loop-form
decreases-loop-form g l = length l.rest
