-- The name ends as computed.
use Rattle.ob_model.proofs.Lookup.{looks_up_total}
use Rattle.ob_model.proofs.laws.name_look_is_total.Goals as goal

pub returns : goal.returns
returns g c = looks_up_total
