-- What is kept is the count of all handles.
use Rattle.std.proofs.Common.{◌∙◌}
use Rattle.ob_processes.proofs.Kept.{count_seen}
use Rattle.ob_processes.proofs.processes.Processes.count_of.Goals as goal

pub returns : goal.returns
returns g c =
    c.get.ensures ∙ count_seen c.self.inside.maps c.self.inside.live.entries c.self.inside.total c.self.inside.counts c.self.invariant c.args.self.now c.self.view_is c.args.object
