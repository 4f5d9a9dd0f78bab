-- Each handle that a step takes away is one that it closes.
use Rattle.ob_model.proofs.AlikeSteps.{step_holds}
use Rattle.ob_model.proofs.laws.handles_hold_on.Goals as goal

pub returns : goal.returns
returns g c = step_holds
