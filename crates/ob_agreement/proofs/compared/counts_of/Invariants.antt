-- The counts are those of the entries so far.
use Rattle.std.proofs.Common.{take}
use Rattle.ob_segments.specs.Journal.{whole}
use Rattle.ob_agreement.proofs.Seats.{Counts}
use Rattle.ob_agreement.proofs.compared.counts_of.Given as goal

abbrev pub invariant-loop-place : goal.invariant-loop-place
invariant-loop-place g l = Counts l.counts (take l.place (whole l.journal.journal))
