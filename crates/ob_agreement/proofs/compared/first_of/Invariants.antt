-- No entry so far is of the seat.
use Rattle.std.proofs.Common.{◌≡◌, [], take}
use Rattle.ob_segments.specs.Journal.{whole}
use Rattle.ob_agreement.specs.Agreement.{entries_of}
use Rattle.ob_agreement.proofs.compared.first_of.Given as goal

abbrev pub invariant-loop-place : goal.invariant-loop-place
invariant-loop-place g l = entries_of l.seat (take l.place (whole l.journal.journal)) ≡ []
