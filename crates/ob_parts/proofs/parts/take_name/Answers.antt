-- Where a cut fails, or what stands in front of the colon is no handle, the bytes begin with no name.
use Rattle.ob_parts.proofs.Readings.{no_name, relative_parts}
use Rattle.ob_parts.proofs.parts.take_name.Goals as goal

pub returns-in_err-root-clause-none : goal.returns-in_err-root-clause-none
returns-in_err-root-clause-none c =
    rw c.from_residual-in_err-root.ensures
    (no_name _ c.in_default.ensures.none
    (λ h t r b. c.in_err-root.ensures.none h (relative_parts _ _ _ h t r c.in_ok-spelled.ensures.found.0 c.in_ok-spelled.ensures.found.1 b).0))

pub returns-in_err-text-clause-none : goal.returns-in_err-text-clause-none
returns-in_err-text-clause-none c =
    rw c.from_residual-in_err-text.ensures
    (no_name _ c.in_default.ensures.none
    (λ h t r b. c.in_err-text.ensures.none t r (relative_parts _ _ _ h t r c.in_ok-spelled.ensures.found.0 c.in_ok-spelled.ensures.found.1 b).1))
