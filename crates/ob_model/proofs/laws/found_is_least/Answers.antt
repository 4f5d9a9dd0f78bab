-- Each further row that matches is weighed against the earliest of those behind it.
use Rattle.ob_model.proofs.Earliest.{found_least}
use Rattle.ob_model.proofs.laws.found_is_least.Goals as goal

pub returns : goal.returns
returns g c = found_least
