-- After the kind, which has one reading, the rest is missing.
use Rattle.ob_parts.specs.Parts.{IsPlaceFlagsTextAndVariable}
use Rattle.ob_parts.proofs.Readings.{moved, kind_alike}
use Rattle.ob_lines.proofs.request.object_of.Goals as goal

pub returns-in_err-place-clause-none : goal.returns-in_err-place-clause-none
returns-in_err-place-clause-none c =
    rw c.from_residual-in_err-place.ensures
    (λ k p a t w s.
    c.in_err-place.ensures.none p a t w
    (moved (λ x. IsPlaceFlagsTextAndVariable x p a t w) _ _ (kind_alike _ _ _ k s.0 c.in_ok-kind.ensures.found s.1).1 s.2))
