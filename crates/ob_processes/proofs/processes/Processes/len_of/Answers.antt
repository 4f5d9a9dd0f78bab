-- A process has as many handles as its table.
use Rattle.std.proofs.Common.{◌∙◌, Some, None, sym}
use Rattle.ob_processes.proofs.Seen.{size_seen}
use Rattle.ob_processes.proofs.processes.Processes.len_of.Goals as goal

pub returns-in-Some : goal.returns-in-Some
returns-in-Some g c =
    c.len.ensures
    ∙ size_seen c.self.inside.maps c.self.inside.live.entries c.self.inside.total c.self.invariant.running c.args.self.now c.self.view_is c.process.inside.0 c.args.process c.process.view_is
    (Some c.in-Some.live.now) (sym c.in-Some.ensures.value)

pub returns-in-None : goal.returns-in-None
returns-in-None g c =
    size_seen c.self.inside.maps c.self.inside.live.entries c.self.inside.total c.self.invariant.running c.args.self.now c.self.view_is c.process.inside.0 c.args.process c.process.view_is None
    (sym c.in-None.ensures.value)
