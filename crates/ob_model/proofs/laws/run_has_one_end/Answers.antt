-- Each command leaves the state as it is, or changes it as its answer tells.
use Rattle.ob_model.proofs.Ends.{run_end}
use Rattle.ob_model.proofs.laws.run_has_one_end.Goals as goal

pub returns : goal.returns
returns g c = run_end
