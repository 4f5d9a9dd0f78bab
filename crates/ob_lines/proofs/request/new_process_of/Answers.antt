-- After the inheritance, which has one reading, no process variable is set.
use Rattle.ob_parts.specs.Parts.{SetsProcess}
use Rattle.ob_parts.proofs.Readings.{moved}
use Rattle.ob_parts.proofs.Processed.{inherit_alike}
use Rattle.ob_lines.proofs.request.new_process_of.Goals as goal

pub returns-in_err-child-clause-none : goal.returns-in_err-child-clause-none
returns-in_err-child-clause-none c =
    rw c.from_residual-in_err-child.ensures
    (λ i q s. c.in_err-child.ensures.none q (moved (λ x. SetsProcess x q) _ _ (inherit_alike _ _ _ i s.0 c.in_ok-inherit.ensures.found s.1).1 s.2))
