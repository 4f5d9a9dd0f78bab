-- After parts that have one reading the next one is missing.
use Rattle.std.proofs.Common.{◌∙◌}
use Rattle.ob_parts.specs.Parts.{BeginsWithRoom}
use Rattle.ob_parts.proofs.Readings.{moved}
use Rattle.ob_parts.proofs.Processed.{handle_first_alike}
use Rattle.ob_parts.proofs.Paged.{room_alike}
use Rattle.ob_lines.proofs.request.directory_query_of.Goals as goal

pub returns-in_err-handle-clause-none : goal.returns-in_err-handle-clause-none
returns-in_err-handle-clause-none c = rw c.from_residual.ensures (λ h n m s. c.in_err-handle.ensures.none h s.0 s.2)

pub returns-in_err-room-clause-none : goal.returns-in_err-room-clause-none
returns-in_err-room-clause-none c =
    rw c.from_residual-in_err-room.ensures
    (λ h n m s.
    c.in_err-room.ensures.none n s.1
    (moved (λ x. BeginsWithRoom x n s.1) _ _ (handle_first_alike _ _ _ h s.0 c.in_ok-handle.ensures.found s.2).1 s.3))

pub returns-in_err-mode-clause-none : goal.returns-in_err-mode-clause-none
returns-in_err-mode-clause-none c =
    rw c.from_residual-in_err-mode.ensures
    (λ h n m s.
    let handle = handle_first_alike _ _ _ h s.0 c.in_ok-handle.ensures.found s.2 in
    let room = room_alike _ _ _ n s.1 c.in_ok-room.ensures.found (moved (λ x. BeginsWithRoom x n s.1) _ _ handle.1 s.3) in
    c.in_err-mode.ensures.none m (room.1 ∙ s.4))
