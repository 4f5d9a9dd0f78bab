-- Behind the flags, of which there is one reading, stands no variable that is set.
use Rattle.ob_parts.specs.Parts.{IsSetting}
use Rattle.ob_parts.proofs.Readings.{moved, flags_first_alike}
use Rattle.ob_parts.proofs.parts.flags_and_variable.Goals as goal

pub returns-in_err-attrs-clause-none : goal.returns-in_err-attrs-clause-none
returns-in_err-attrs-clause-none c = rw c.from_residual.ensures (λ a w s. c.in_err-attrs.ensures.none a s.0 s.1)

pub returns-in_err-variable-clause-none : goal.returns-in_err-variable-clause-none
returns-in_err-variable-clause-none c =
    rw c.from_residual-in_err-variable.ensures
    (λ a w s. c.in_err-variable.ensures.none w (moved (λ x. IsSetting x w) _ _ (flags_first_alike _ _ _ a s.0 c.in_ok-attrs.ensures.found s.1).1 s.2))
