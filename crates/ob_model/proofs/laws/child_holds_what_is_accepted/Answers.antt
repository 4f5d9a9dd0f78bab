-- One handle after another.
use Rattle.ob_model.proofs.Ended.{begun_holds}
use Rattle.ob_model.proofs.laws.child_holds_what_is_accepted.Goals as goal

pub returns : goal.returns
returns g c = begun_holds
