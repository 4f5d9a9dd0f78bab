-- After parts that have one reading the next one is missing.
use Rattle.ob_parts.specs.Parts.{BeginsWithPlace, IsFlagsAndVariable}
use Rattle.ob_parts.proofs.Readings.{moved, place_alike}
use Rattle.ob_parts.proofs.Processed.{handle_first_alike}
use Rattle.ob_lines.proofs.request.shadowed_of.Goals as goal

pub returns-in_err-shadow-clause-none : goal.returns-in_err-shadow-clause-none
returns-in_err-shadow-clause-none c = rw c.from_residual.ensures (λ h p a w s. c.in_err-shadow.ensures.none h s.0 s.2)

pub returns-in_err-place-clause-none : goal.returns-in_err-place-clause-none
returns-in_err-place-clause-none c =
    rw c.from_residual-in_err-place.ensures
    (λ h p a w s.
    c.in_err-place.ensures.none p s.1
    (moved (λ x. BeginsWithPlace x p s.1) _ _ (handle_first_alike _ _ _ h s.0 c.in_ok-shadow.ensures.found s.2).1 s.3))

pub returns-in_err-attrs-clause-none : goal.returns-in_err-attrs-clause-none
returns-in_err-attrs-clause-none c =
    rw c.from_residual-in_err-attrs.ensures
    (λ h p a w s.
    let handle = handle_first_alike _ _ _ h s.0 c.in_ok-shadow.ensures.found s.2 in
    let place = place_alike _ _ _ p s.1 c.in_ok-place.ensures.found (moved (λ x. BeginsWithPlace x p s.1) _ _ handle.1 s.3) in
    c.in_err-attrs.ensures.none a w (moved (λ x. IsFlagsAndVariable x a w) _ _ place.1 s.4))
