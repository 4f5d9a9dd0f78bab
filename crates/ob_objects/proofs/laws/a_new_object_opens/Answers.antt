use Rattle.ob_objects.proofs.Follow.{new_object_opens}
use Rattle.ob_objects.proofs.laws.a_new_object_opens.Goals as goal

pub returns : goal.returns
returns g c = new_object_opens
