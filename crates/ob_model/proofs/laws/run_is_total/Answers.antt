-- One step after another, each from a sound state.
use Rattle.ob_model.proofs.Runs.{run_total}
use Rattle.ob_model.proofs.laws.run_is_total.Goals as goal

pub returns : goal.returns
returns g c = run_total
