-- The lookup from where the name begins has one end.
use Rattle.ob_model.proofs.Lookup.{looks_up_unique}
use Rattle.ob_model.proofs.laws.name_look_is_unique.Goals as goal

pub returns : goal.returns
returns g c = looks_up_unique
