use Rattle.ob_model.proofs.Staying.{settling_settles, settled_itself}
use Rattle.ob_model.proofs.laws.settling_settles.Goals as goal

pub returns-clause-settled : goal.returns-clause-settled
returns-clause-settled g c = settling_settles

pub returns-clause-stays : goal.returns-clause-stays
returns-clause-stays g c = settled_itself
