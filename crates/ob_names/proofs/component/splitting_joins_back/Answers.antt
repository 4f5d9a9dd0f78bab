use Rattle.ob_names.proofs.Splitting.{IsSplit-next, IsSplit-unique}
use Rattle.ob_names.proofs.component.splitting_joins_back.Goals as goal

pub returns-clause-goes_on : goal.returns-clause-goes_on
returns-clause-goes_on c = IsSplit-next

pub returns-clause-unique : goal.returns-clause-unique
returns-clause-unique c = IsSplit-unique
