-- Each handle of the process is among those that are closed.
use Rattle.ob_model.proofs.Ended.{ended_holds_nothing, ended_is_gone}
use Rattle.ob_model.proofs.laws.ended_process_is_gone.Goals as goal

pub returns-clause-handles : goal.returns-clause-handles
returns-clause-handles g c = ended_holds_nothing

pub returns-clause-gone : goal.returns-clause-gone
returns-clause-gone g c = ended_is_gone
