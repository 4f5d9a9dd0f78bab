-- The lookup ends as computed.
use Rattle.ob_model.proofs.Lookup.{looks_total}
use Rattle.ob_model.proofs.laws.look_is_total.Goals as goal

pub returns : goal.returns
returns g c = looks_total
