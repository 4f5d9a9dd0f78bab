use Rattle.std.proofs.Common.{◌≡◌, ◌++◌, length, reverse}
use Rattle.ob_host.specs.Chain.{items}
use Rattle.ob_host.proofs.chain.Chain.reversed.Given as goal

-- what is left, turned, and then what was turned
abbrev pub invariant-loop-deletion : goal.invariant-loop-deletion
invariant-loop-deletion l = reverse (items l.initial.self) ≡ reverse (items l.self) ++ items l.turned

abbrev pub decreases-loop-deletion : goal.decreases-loop-deletion
decreases-loop-deletion l = length (items l.self)
