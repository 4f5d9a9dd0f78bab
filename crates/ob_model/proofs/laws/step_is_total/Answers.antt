-- Each command is refused, or what it needs is there: an end of its lookup, a free value, a way up.
use Rattle.ob_model.proofs.Total.{step_total}
use Rattle.ob_model.proofs.laws.step_is_total.Goals as goal

pub returns : goal.returns
returns g c = step_total
