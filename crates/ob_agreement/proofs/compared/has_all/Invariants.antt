-- The receipts that were gone through follow the entries of the seat.
use Rattle.std.proofs.Common.{length}
use Rattle.ob_segments.specs.Journal.{whole}
use Rattle.ob_agreement.proofs.Seats.{Follows}
use Rattle.ob_agreement.proofs.compared.has_all.Given as goal

abbrev pub invariant-loop-receipt : goal.invariant-loop-receipt
invariant-loop-receipt g l = Follows l.seat (whole l.journal.journal) l.receipts l.last l.rest

abbrev pub decreases-loop-receipt : goal.decreases-loop-receipt
decreases-loop-receipt g l = length l.rest
