-- A word that is no kind, and bytes without a space, begin with no kind.
use Rattle.ob_parts.proofs.Readings.{kind_parts}
use Rattle.ob_parts.proofs.kind.take_kind.Goals as goal

pub returns-in_err-kind-clause-none : goal.returns-in_err-kind-clause-none
returns-in_err-kind-clause-none c =
    rw c.from_residual-in_err-kind.ensures
    (λ k r b. c.in_err-kind.ensures.none k (kind_parts _ _ _ k r c.in_ok-word.ensures.found.0 c.in_ok-word.ensures.found.1 b).0)
