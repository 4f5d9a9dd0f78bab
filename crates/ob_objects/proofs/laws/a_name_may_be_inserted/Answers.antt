use Rattle.ob_objects.proofs.Free.{name_may_be_inserted}
use Rattle.ob_objects.proofs.laws.a_name_may_be_inserted.Goals as goal

pub returns : goal.returns
returns g c = name_may_be_inserted
