use Rattle.ob_objects.proofs.Follow.{newest_is_free, newest_is_last}
use Rattle.ob_objects.proofs.laws.the_newest_is_the_last.Goals as goal

pub returns-clause-free : goal.returns-clause-free
returns-clause-free g c = newest_is_free

pub returns-clause-last : goal.returns-clause-last
returns-clause-last g c = newest_is_last
