use Rattle.ob_model.proofs.Staying.{opening_settled, step_settled}
use Rattle.ob_model.proofs.laws.step_stays_settled.Goals as goal

pub returns-clause-opening : goal.returns-clause-opening
returns-clause-opening g c = opening_settled

pub returns-clause-step : goal.returns-clause-step
returns-clause-step g c = step_settled
