-- The root is alive, whatever else holds of it.
use Rattle.std.proofs.Common.{refl}
use Rattle.ob_model.specs.State.{root_id}
use Rattle.ob_model.proofs.Settled.{object_of-settle}
use Rattle.ob_model.proofs.laws.root_stays.Goals as goal

pub returns : goal.returns
returns g c = λ g' s. object_of-settle g' s root_id refl
