use Rattle.ob_model.proofs.Maps.{begun_map}
use Rattle.ob_model.proofs.laws.child_has_the_map_of_its_parent.Goals as goal

pub returns : goal.returns
returns g c = begun_map
