use Rattle.ob_model.proofs.Staying.{closed_settled}
use Rattle.ob_model.proofs.laws.what_is_kept_stays.Goals as goal

pub returns : goal.returns
returns g c = closed_settled
