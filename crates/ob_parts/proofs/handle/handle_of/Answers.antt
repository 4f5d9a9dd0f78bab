-- Bytes that are no variable, and aren't cut at a plus into a variable and an offset, are no handle.
use Rattle.std.proofs.lemmas.Bool.{both_ways}
use Rattle.ob_parts.proofs.Handles.{plus_parts, handle_uncut}
use Rattle.ob_parts.proofs.handle.handle_of.Goals as goal

pub returns-in_err-variable-clause-none : goal.returns-in_err-variable-clause-none
returns-in_err-variable-clause-none c =
    rw c.from_residual.ensures
    (λ h. handle_uncut _ h (λ is. both_ways _ c.if-is_variable.false (c.is_variable.ensures.1 is)) c.in_err-variable.ensures.none)

pub returns-then-not-is_variable-clause-none : goal.returns-then-not-is_variable-clause-none
returns-then-not-is_variable-clause-none c = λ h s.
    let parts = plus_parts _ _ _ h c.in_ok-variable.ensures.found.0 c.in_ok-variable.ensures.found.1 s in
    both_ways _ c.if-not-is_variable.true (c.is_variable-2.ensures.1 parts.0)

pub returns-in_err-offset-clause-none : goal.returns-in_err-offset-clause-none
returns-in_err-offset-clause-none c =
    rw c.from_residual-in_err-offset.ensures
    (λ h s. c.in_err-offset.ensures.none h.offset (plus_parts _ _ _ h c.in_ok-variable.ensures.found.0 c.in_ok-variable.ensures.found.1 s).1)
