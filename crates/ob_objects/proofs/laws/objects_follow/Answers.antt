use Rattle.ob_objects.proofs.Follow.{new_object_in_order, object_goes_alone, store_with_object}
use Rattle.ob_objects.proofs.laws.objects_follow.Goals as goal

pub returns-clause-new : goal.returns-clause-new
returns-clause-new g c = new_object_in_order

pub returns-clause-gone : goal.returns-clause-gone
returns-clause-gone g c = object_goes_alone

pub returns-clause-store : goal.returns-clause-store
returns-clause-store g c = store_with_object
