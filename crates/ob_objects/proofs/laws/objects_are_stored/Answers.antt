use Rattle.ob_objects.proofs.Follow.{found_is_stored, as_many, ids_rise}
use Rattle.ob_objects.proofs.laws.objects_are_stored.Goals as goal

pub returns-clause-found : goal.returns-clause-found
returns-clause-found g c = found_is_stored

pub returns-clause-count : goal.returns-clause-count
returns-clause-count g c = as_many

pub returns-clause-rising : goal.returns-clause-rising
returns-clause-rising g c = ids_rise
