-- Behind parts of which there is one reading the next one is missing.
use Rattle.ob_parts.specs.Parts.{BeginsWithText, IsSetting}
use Rattle.ob_parts.proofs.Readings.{moved, text_alike, flags_first_alike}
use Rattle.ob_parts.proofs.parts.flags_text_and_variable.Goals as goal

pub returns-in_err-attrs-clause-none : goal.returns-in_err-attrs-clause-none
returns-in_err-attrs-clause-none c = rw c.from_residual.ensures (λ a t w s. c.in_err-attrs.ensures.none a s.0 s.2)

pub returns-in_err-text-clause-none : goal.returns-in_err-text-clause-none
returns-in_err-text-clause-none c =
    rw c.from_residual-in_err-text.ensures
    (λ a t w s. c.in_err-text.ensures.none t s.1
    (moved (λ x. BeginsWithText x t s.1) _ _ (flags_first_alike _ _ _ a s.0 c.in_ok-attrs.ensures.found s.2).1 s.3))

pub returns-in_err-variable-clause-none : goal.returns-in_err-variable-clause-none
returns-in_err-variable-clause-none c =
    rw c.from_residual-in_err-variable.ensures
    (λ a t w s.
    let flags = flags_first_alike _ _ _ a s.0 c.in_ok-attrs.ensures.found s.2 in
    let text = text_alike _ _ _ t s.1 c.in_ok-text.ensures.found (moved (λ x. BeginsWithText x t s.1) _ _ flags.1 s.3) in
    c.in_err-variable.ensures.none w (moved (λ x. IsSetting x w) _ _ text.1 s.4))
