-- Bytes that begin with `begin ` and no operands of it after that are none of the three.
use Rattle.ob_lines.proofs.LineForms.{begin_alone}
use Rattle.ob_lines.proofs.pending.pending_of.Goals as goal

pub returns-in_err-want-clause-none : goal.returns-in_err-want-clause-none
returns-in_err-want-clause-none c =
    rw c.from_residual.ensures (begin_alone _ _ c.in-Some.ensures.found c.in_err-want.ensures.none)
