-- One step after another, each from a sound state.
use Rattle.ob_model.proofs.Alone.{run_alone}
use Rattle.ob_model.proofs.laws.exclusive_objects_have_one_process.Goals as goal

pub returns : goal.returns
returns g c = run_alone
