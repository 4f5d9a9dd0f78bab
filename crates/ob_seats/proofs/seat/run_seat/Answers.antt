-- The lines were played, and what waited was given up.
use Rattle.std.proofs.Common.{◌≡◌, ◌++◌, IfErr, OnOk, subst}
use Rattle.ob_requests.specs.Tables.{variables_in}
use Rattle.ob_worker_lines.specs.Parts.{lines_in}
use Rattle.ob_seats.specs.Received.{Entries}
use Rattle.ob_seats.specs.Played.{ArePlayed}
use Rattle.ob_seats.specs.Stopped.{IsPartStopped}
use Rattle.ob_base.specs.declared.fault.Fault.{Fault}
use Rattle.ob_seats.proofs.Playing.{part_stopped, seat_played}
use Rattle.ob_seats.proofs.seat.run_seat.Goals as goal

pub returns-in-Ok-clause-played : goal.returns-in-Ok-clause-played
returns-in-Ok-clause-played g c =
    let rs = g.C.Callers.receipts c.args.pass in
    let rs' = g.C.Callers.receipts c.run_part-pass.result.0 in
    let behind = variables_in c.run_part-pass.new.self.variables in
    seat_played (lines_in c.args.part) (variables_in c.args.seat.variables) behind rs rs' (g.C.Callers.receipts c.end-pass.result.0)
    (subst (λ r. OnOk r ((entries : Entries) × (rs' ≡ rs ++ entries) × ArePlayed (lines_in c.args.part) (variables_in c.args.seat.variables) entries behind)) c.in-Ok.is c.run_part-pass.ensures.played)
    (c.end-pass.ensures.given_up c.if-is_whole.true)

pub returns-in-Err-clause-stopped : goal.returns-in-Err-clause-stopped
returns-in-Err-clause-stopped g c =
    let rs = g.C.Callers.receipts c.args.pass in
    let rs' = g.C.Callers.receipts c.run_part-pass.result.0 in
    let left = variables_in c.run_part-pass.new.self.variables in
    part_stopped (λ (fault : Fault). g.C.Callers.gives_fault c.run_part-pass.result.0 fault) (λ (fault : Fault). (last : g.row.C-Pass.Denot) × g.C.Callers.gives_fault last fault) (λ fault known. (c.run_part-pass.result.0, known))
    c.args.part.first (lines_in c.args.part) (variables_in c.args.seat.variables) left c.in-Err.stopped rs rs' (g.C.Callers.receipts c.end-pass.result.0)
    (subst (λ r. IfErr r (λ stopped. (entries : Entries) × (rs' ≡ rs ++ entries) × IsPartStopped (λ (fault : Fault). g.C.Callers.gives_fault c.run_part-pass.result.0 fault) c.args.part.first (lines_in c.args.part)
    (variables_in c.args.seat.variables) entries stopped left)) c.in-Err.is c.run_part-pass.ensures.stopped)
    c.end-pass.ensures.let_go
