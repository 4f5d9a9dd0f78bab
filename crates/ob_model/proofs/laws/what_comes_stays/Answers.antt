use Rattle.ob_model.proofs.Staying.{granted_settled, created_settled, begun_settled}
use Rattle.ob_model.proofs.laws.what_comes_stays.Goals as goal

pub returns-clause-grant : goal.returns-clause-grant
returns-clause-grant g c = granted_settled

pub returns-clause-create : goal.returns-clause-create
returns-clause-create g c = created_settled

pub returns-clause-child : goal.returns-clause-child
returns-clause-child g c = begun_settled
