-- The deletions that were copied, in the other order, and those that are left, are the chain's.
use Rattle.std.proofs.Common.{◌≡◌, ◌++◌, length, reverse}
use Rattle.ob_host.specs.Chain.{items}
use Rattle.ob_host.proofs.chain.Chain.copied.Given as goal

abbrev pub invariant-loop-rest : goal.invariant-loop-rest
invariant-loop-rest l = reverse (items l.turned) ++ items l.rest ≡ items l.fn.self

abbrev pub decreases-loop-rest : goal.decreases-loop-rest
decreases-loop-rest l = length (items l.rest)
