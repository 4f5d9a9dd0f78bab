-- Tickets rise with the numbers of the map.
use Rattle.ob_runner.proofs.Kept.{rising}
use Rattle.ob_runner.proofs.waits.Waits.tickets_rise.Goals as goal

pub returns : goal.returns
returns g c = rising c.self.inside.parses.entries c.self.invariant c.args.self.now c.self.view_is
