-- After parts that have one reading the next one is missing.
use Rattle.ob_parts.specs.Parts.{BeginsWithProcess, BeginsWithInherit, IsSetting}
use Rattle.ob_parts.proofs.Readings.{moved}
use Rattle.ob_parts.proofs.Processed.{handle_first_alike, process_alike, inherit_alike}
use Rattle.ob_lines.proofs.request.duplicate_of.Goals as goal

pub returns-in_err-handle-clause-none : goal.returns-in_err-handle-clause-none
returns-in_err-handle-clause-none c = rw c.from_residual.ensures (λ h q i w s. c.in_err-handle.ensures.none h s.0 s.3)

pub returns-in_err-to-clause-none : goal.returns-in_err-to-clause-none
returns-in_err-to-clause-none c =
    rw c.from_residual-in_err-to.ensures
    (λ h q i w s. c.in_err-to.ensures.none q s.1
    (moved (λ x. BeginsWithProcess x q s.1) _ _ (handle_first_alike _ _ _ h s.0 c.in_ok-handle.ensures.found s.3).1 s.4))

pub returns-in_err-inherit-clause-none : goal.returns-in_err-inherit-clause-none
returns-in_err-inherit-clause-none c =
    rw c.from_residual-in_err-inherit.ensures
    (λ h q i w s.
    let handle = handle_first_alike _ _ _ h s.0 c.in_ok-handle.ensures.found s.3 in
    let process = process_alike _ _ _ q s.1 c.in_ok-to.ensures.found (moved (λ x. BeginsWithProcess x q s.1) _ _ handle.1 s.4) in
    c.in_err-inherit.ensures.none i s.2 (moved (λ x. BeginsWithInherit x i s.2) _ _ process.1 s.5))

pub returns-in_err-variable-clause-none : goal.returns-in_err-variable-clause-none
returns-in_err-variable-clause-none c =
    rw c.from_residual-in_err-variable.ensures
    (λ h q i w s.
    let handle = handle_first_alike _ _ _ h s.0 c.in_ok-handle.ensures.found s.3 in
    let process = process_alike _ _ _ q s.1 c.in_ok-to.ensures.found (moved (λ x. BeginsWithProcess x q s.1) _ _ handle.1 s.4) in
    let inherit = inherit_alike _ _ _ i s.2 c.in_ok-inherit.ensures.found (moved (λ x. BeginsWithInherit x i s.2) _ _ process.1 s.5) in
    c.in_err-variable.ensures.none w (moved (λ x. IsSetting x w) _ _ inherit.1 s.6))
