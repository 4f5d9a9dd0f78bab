-- One event has one answer, except for the value of the handle that it gives.
use Rattle.ob_model.proofs.OneAnswer.{step_has_one_answer}
use Rattle.ob_model.proofs.choices.nothing_else_is_chosen.Goals as goal

pub returns : goal.returns
returns g c = step_has_one_answer
