-- Behind the name, of which there is one reading, the rest is missing.
use Rattle.ob_parts.specs.Parts.{IsFlagsAndVariable}
use Rattle.ob_parts.proofs.Readings.{moved, name_alike}
use Rattle.ob_parts.proofs.parts.name_flags_and_variable.Goals as goal

pub returns-in_err-attrs-clause-none : goal.returns-in_err-attrs-clause-none
returns-in_err-attrs-clause-none c =
    rw c.from_residual-in_err-attrs.ensures
    (λ n a w s. c.in_err-attrs.ensures.none a w (moved (λ x. IsFlagsAndVariable x a w) _ _ (name_alike _ _ _ n s.0 c.in_ok-name.ensures.found s.1).1 s.2))
