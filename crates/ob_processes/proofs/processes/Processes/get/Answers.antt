-- What is found in the table of a process is found among all handles.
use Rattle.std.proofs.Common.{◌∙◌, Some, None, sym}
use Rattle.ob_processes.proofs.Seen.{get_seen}
use Rattle.ob_processes.proofs.processes.Processes.get.Goals as goal

pub returns-in_err-get-clause-there : goal.returns-in_err-get-clause-there
returns-in_err-get-clause-there g c =
    c.from_residual.ensures
    ∙ get_seen c.self.inside.maps c.self.inside.live.entries c.self.inside.total c.self.invariant.running c.args.self.now c.self.view_is c.process.inside.0 c.args.process c.process.view_is None
    (sym c.in_err-get.ensures.value) c.args.value

pub returns-clause-there : goal.returns-clause-there
returns-clause-there g c =
    c.get-2.ensures.there
    ∙ get_seen c.self.inside.maps c.self.inside.live.entries c.self.inside.total c.self.invariant.running c.args.self.now c.self.view_is c.process.inside.0 c.args.process c.process.view_is
    (Some c.in_ok-get.field-0.now) (sym c.in_ok-get.ensures.value) c.args.value
