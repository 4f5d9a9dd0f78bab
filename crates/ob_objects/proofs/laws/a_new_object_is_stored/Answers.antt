use Rattle.ob_objects.proofs.Follow.{new_object_is_stored, others_stay_stored}
use Rattle.ob_objects.proofs.laws.a_new_object_is_stored.Goals as goal

pub returns-clause-new : goal.returns-clause-new
returns-clause-new g c = new_object_is_stored

pub returns-clause-others : goal.returns-clause-others
returns-clause-others g c = others_stay_stored
