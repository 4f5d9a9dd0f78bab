use Rattle.ob_objects.proofs.Shown.{stored_is_object}
use Rattle.ob_objects.proofs.laws.stored_is_the_object.Goals as goal

pub returns : goal.returns
returns g c = stored_is_object
