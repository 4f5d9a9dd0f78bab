-- Bytes that stand where a handle does, and are none, begin with no handle.
use Rattle.ob_parts.proofs.Processed.{handle_parts}
use Rattle.ob_parts.proofs.process.take_handle.Goals as goal

pub returns-in_err-handle-clause-none : goal.returns-in_err-handle-clause-none
returns-in_err-handle-clause-none c =
    rw c.from_residual-in_err-handle.ensures
    (λ h r b. c.in_err-handle.ensures.none h (handle_parts _ _ _ h r c.in_ok-spelled.ensures.found.0 c.in_ok-spelled.ensures.found.1 b).0)
