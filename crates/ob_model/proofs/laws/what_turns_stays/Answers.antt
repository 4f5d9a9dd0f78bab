use Rattle.ob_model.proofs.Staying.{turned_settled}
use Rattle.ob_model.proofs.laws.what_turns_stays.Goals as goal

pub returns : goal.returns
returns g c = turned_settled
