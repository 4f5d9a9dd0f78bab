-- What is found of the map is what is found of the parses.
use Rattle.std.proofs.Common.{◌∙◌}
use Rattle.ob_runner.proofs.Kept.{found_now}
use Rattle.ob_runner.proofs.waits.Waits.parse.Goals as goal

pub returns : goal.returns
returns g c = c.get.ensures.value ∙ found_now c.self.inside.parses.entries c.self.invariant c.args.self.now c.self.view_is c.args.ticket
