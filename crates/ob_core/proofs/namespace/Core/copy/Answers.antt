-- What holds between steps, and of a state that a run leads to, holds of the same state.
use Rattle.std.proofs.Common.{sym, subst}
use Rattle.ob_space.specs.Orderly.{IsBetweenSteps}
use Rattle.ob_core.specs.Reached.{IsReached}
use Rattle.ob_core.proofs.namespace.Core.copy.Goals as goal

pub invariant_of-result : goal.invariant_of-result
invariant_of-result g c = subst (λ s. IsBetweenSteps g.T.TypeSet.idle s × IsReached g.T.TypeSet.procedures s) (sym c.in_ok-copy.ensures) c.self.invariant
