use Rattle.ob_objects.proofs.Shown.{permanence_is_objects}
use Rattle.ob_objects.proofs.laws.permanence_is_the_objects.Goals as goal

pub returns : goal.returns
returns g c = permanence_is_objects
