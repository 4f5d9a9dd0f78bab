-- An object is counted exactly where an open pins it.
use Rattle.ob_processes.proofs.Pinned.{pinned_now}
use Rattle.ob_processes.proofs.pending.PendingOpens.is_pinned.Goals as goal

pub returns : goal.returns
returns g c = pinned_now c.self.inside.opens.entries c.self.inside.pins c.self.invariant c.args.self.now c.self.view_is c.args.object c.get.result c.get.ensures
