-- Behind what is wanted, of which there is one reading, the rest is missing.
use Rattle.ob_parts.specs.Parts.{IsNameFlagsAndVariable}
use Rattle.ob_parts.proofs.Readings.{moved, want_alike}
use Rattle.ob_parts.proofs.parts.want_name_flags_and_variable.Goals as goal

pub returns-in_err-name-clause-none : goal.returns-in_err-name-clause-none
returns-in_err-name-clause-none c =
    rw c.from_residual-in_err-name.ensures
    (λ k n a w s.
    c.in_err-name.ensures.none n a w
    (moved (λ x. IsNameFlagsAndVariable x n a w) _ _ (want_alike _ _ _ k s.0 c.in_ok-want.ensures.found s.1).1 s.2))
