use Rattle.ob_objects.proofs.Follow.{object_taken_back, name_taken_back, both_taken_back}
use Rattle.ob_objects.proofs.laws.what_came_last_is_taken_back.Goals as goal

pub returns-clause-object : goal.returns-clause-object
returns-clause-object g c = object_taken_back

pub returns-clause-name : goal.returns-clause-name
returns-clause-name g c = name_taken_back

pub returns-clause-both : goal.returns-clause-both
returns-clause-both g c = both_taken_back
