-- What is found in the table of a process is found among all handles.
use Rattle.std.proofs.Common.{◌∙◌, ltb, Some, None, sym}
use Rattle.ob_processes.proofs.Seen.{first_seen}
use Rattle.ob_processes.proofs.processes.Processes.opened_after.Goals as goal

pub returns-in_err-get : goal.returns-in_err-get
returns-in_err-get g c =
    c.from_residual.ensures
    ∙ first_seen c.self.inside.maps c.self.inside.live.entries c.self.inside.total c.self.invariant.running c.args.self.now c.self.view_is c.process.inside.0 c.args.process c.process.view_is None
    (sym c.in_err-get.ensures.value) (λ h. ltb c.args.order h.order)

pub returns : goal.returns
returns g c =
    c.opened_after.ensures
    ∙ first_seen c.self.inside.maps c.self.inside.live.entries c.self.inside.total c.self.invariant.running c.args.self.now c.self.view_is c.process.inside.0 c.args.process c.process.view_is
    (Some c.in_ok-get.field-0.now) (sym c.in_ok-get.ensures.value) (λ h. ltb c.args.order h.order)
