-- The least seat so far is that of the entries so far.
use Rattle.std.proofs.Common.{◌≡◌, [], take}
use Rattle.ob_segments.specs.Journal.{whole}
use Rattle.ob_agreement.specs.Agreement.{entries_of, IsLeastWithout}
use Rattle.ob_agreement.proofs.agreement.beyond_in_journal.Given as goal

abbrev pub invariant-loop-place : goal.invariant-loop-place
invariant-loop-place g l = IsLeastWithout (λ seat. entries_of seat (take l.place (whole l.journal.journal)) ≡ []) l.seats l.least
