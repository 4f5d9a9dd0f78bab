-- The receipts so far are the entries of the seat so far.
use Rattle.std.proofs.Common.{◌≡◌, ◌++◌, take}
use Rattle.ob_segments.specs.Journal.{whole}
use Rattle.ob_agreement.specs.Agreement.{entries_of}
use Rattle.ob_agreement.proofs.compared.difference.Given as goal

abbrev pub invariant-loop-place : goal.invariant-loop-place
invariant-loop-place g l = l.receipts ≡ entries_of l.seat (take l.place (whole l.journal.journal)) ++ l.rest
