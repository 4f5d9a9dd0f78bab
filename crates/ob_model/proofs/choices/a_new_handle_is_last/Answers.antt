-- A handle that comes is put behind the others.
use Rattle.ob_model.proofs.ChosenSteps.{step_last}
use Rattle.ob_model.proofs.choices.a_new_handle_is_last.Goals as goal

pub returns : goal.returns
returns g c = step_last
