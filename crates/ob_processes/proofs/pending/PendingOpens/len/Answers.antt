-- Tickets rise with the numbers of the map.
use Rattle.ob_processes.proofs.Pinned.{rising}
use Rattle.ob_processes.proofs.pending.PendingOpens.len.Goals as goal

pub returns-clause-rising : goal.returns-clause-rising
returns-clause-rising g c = rising c.self.inside.opens.entries c.self.inside.pins c.self.invariant c.args.self.now c.self.view_is
