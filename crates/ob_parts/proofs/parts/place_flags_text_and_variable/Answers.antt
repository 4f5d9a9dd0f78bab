-- Behind the place, of which there is one reading, the rest is missing.
use Rattle.ob_parts.specs.Parts.{IsFlagsTextAndVariable}
use Rattle.ob_parts.proofs.Readings.{moved, place_alike}
use Rattle.ob_parts.proofs.parts.place_flags_text_and_variable.Goals as goal

pub returns-in_err-attrs-clause-none : goal.returns-in_err-attrs-clause-none
returns-in_err-attrs-clause-none c =
    rw c.from_residual-in_err-attrs.ensures
    (λ p a t w s. c.in_err-attrs.ensures.none a t w
    (moved (λ x. IsFlagsTextAndVariable x a t w) _ _ (place_alike _ _ _ p s.0 c.in_ok-place.ensures.found s.1).1 s.2))
