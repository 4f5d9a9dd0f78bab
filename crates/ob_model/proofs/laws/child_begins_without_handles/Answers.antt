use Rattle.ob_model.proofs.Ended.{begun_empty}
use Rattle.ob_model.proofs.laws.child_begins_without_handles.Goals as goal

pub returns : goal.returns
returns g c = begun_empty
