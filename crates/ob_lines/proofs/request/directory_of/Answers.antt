-- After the place, which has one reading, the rest is missing.
use Rattle.ob_parts.specs.Parts.{IsFlagsAndVariable}
use Rattle.ob_parts.proofs.Readings.{moved, place_alike}
use Rattle.ob_lines.proofs.request.directory_of.Goals as goal

pub returns-in_err-attrs-clause-none : goal.returns-in_err-attrs-clause-none
returns-in_err-attrs-clause-none c =
    rw c.from_residual-in_err-attrs.ensures
    (λ p a w s. c.in_err-attrs.ensures.none a w (moved (λ x. IsFlagsAndVariable x a w) _ _ (place_alike _ _ _ p s.0 c.in_ok-place.ensures.found s.1).1 s.2))
