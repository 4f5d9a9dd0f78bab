-- The walk stops in one way, and at a stop one thing is to be done.
use Rattle.ob_model.proofs.Lookup.{looks_unique}
use Rattle.ob_model.proofs.laws.look_is_unique.Goals as goal

pub returns : goal.returns
returns g c = looks_unique
