-- By the states between its steps.
use Rattle.ob_model.proofs.Runs.{run_passed}
use Rattle.ob_model.proofs.laws.run_is_passed.Goals as goal

pub returns : goal.returns
returns g c = run_passed
