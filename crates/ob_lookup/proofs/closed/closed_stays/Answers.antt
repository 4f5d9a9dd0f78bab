use Rattle.ob_lookup.proofs.Stays.{closed_with_object, closed_with_name}
use Rattle.ob_lookup.proofs.closed.closed_stays.Goals as goal

pub returns-clause-object : goal.returns-clause-object
returns-clause-object g c = closed_with_object

pub returns-clause-name : goal.returns-clause-name
returns-clause-name g c = closed_with_name
