-- What is found of the map is what is found of the opens.
use Rattle.std.proofs.Common.{◌∙◌}
use Rattle.ob_processes.proofs.Pinned.{found_now}
use Rattle.ob_processes.proofs.pending.PendingOpens.get.Goals as goal

pub returns : goal.returns
returns g c = c.get.ensures.value ∙ found_now c.self.inside.opens.entries c.self.inside.pins c.self.invariant c.args.self.now c.self.view_is c.args.ticket
