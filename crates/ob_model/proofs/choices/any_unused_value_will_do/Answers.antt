-- Nothing but the value of the new handle depends on it.
use Rattle.ob_model.proofs.ChosenSteps.{step_under}
use Rattle.ob_model.proofs.choices.any_unused_value_will_do.Goals as goal

pub returns : goal.returns
returns g c = step_under
