-- The seats so far have their own passes.
use Rattle.std.proofs.Common.{ℕ, ◌<◌}
use Rattle.ob_segments.specs.Journal.{whole}
use Rattle.ob_agreement.specs.Agreement.{IsOwn}
use Rattle.ob_agreement.proofs.agreement.agree.Given as goal

abbrev pub invariant-loop-seat : goal.invariant-loop-seat
invariant-loop-seat g l = (seat : ℕ) → seat < l.seat → IsOwn (whole l.journal.journal) l.passes seat
