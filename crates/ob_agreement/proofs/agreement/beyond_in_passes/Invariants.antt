-- The least seat so far is that of the passes so far.
use Rattle.std.proofs.Common.{◌≡◌, [], take}
use Rattle.ob_agreement.specs.Agreement.{passes_of, IsLeastWithout}
use Rattle.ob_agreement.proofs.agreement.beyond_in_passes.Given as goal

abbrev pub invariant-loop-pass : goal.invariant-loop-pass
invariant-loop-pass g l = IsLeastWithout (λ seat. passes_of seat (take l.pass-index l.passes) ≡ []) l.seats l.least
