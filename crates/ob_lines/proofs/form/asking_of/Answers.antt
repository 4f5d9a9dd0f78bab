-- After the process variable, which has one reading, neither a request nor the end of a pending open follows.
use Rattle.ob_lines.proofs.LineForms.{asks_rest, waits_rest}
use Rattle.ob_lines.proofs.form.asking_of.Goals as goal

pub returns-in_err-pending-clause-none : goal.returns-in_err-pending-clause-none
returns-in_err-pending-clause-none c =
    rw c.from_residual-in_err-pending.ensures (
      (λ p r s. c.in_default.ensures.none r (asks_rest _ _ _ p r c.in_ok-process.ensures.found s).1),
      (λ p w s. c.in_err-pending.ensures.none w (waits_rest _ _ _ p w c.in_ok-process.ensures.found s).1),
    )
