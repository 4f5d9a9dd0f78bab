-- Both steps are refused for the same, or both do the same: values only lead to handles.
use Rattle.ob_model.proofs.AlikeSteps.{steps_stay, steps_lead}
use Rattle.ob_model.proofs.laws.steps_stay_alike.Goals as goal

pub returns-clause-steps : goal.returns-clause-steps
returns-clause-steps g c = steps_stay

pub returns-clause-handles : goal.returns-clause-handles
returns-clause-handles g c = steps_lead
