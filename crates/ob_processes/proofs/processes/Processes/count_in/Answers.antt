-- What is kept in a process is the count of its handles among all.
use Rattle.std.proofs.Common.{◌∙◌, Some, None, sym}
use Rattle.ob_processes.proofs.Kept.{count_in_seen}
use Rattle.ob_processes.proofs.processes.Processes.count_in.Goals as goal

pub returns-in-Some : goal.returns-in-Some
returns-in-Some g c =
    c.count_of.ensures
    ∙ count_in_seen c.self.inside.maps c.self.inside.live.entries c.self.inside.total c.self.inside.counts c.self.invariant c.args.self.now c.self.view_is c.process.inside.0 c.args.process c.process.view_is
    (Some c.in-Some.live.now) (sym c.in-Some.ensures.value) c.args.object

pub returns-in-None : goal.returns-in-None
returns-in-None g c =
    count_in_seen c.self.inside.maps c.self.inside.live.entries c.self.inside.total c.self.inside.counts c.self.invariant c.args.self.now c.self.view_is c.process.inside.0 c.args.process c.process.view_is
    None (sym c.in-None.ensures.value) c.args.object
