use Rattle.ob_session.proofs.Runs.{session_runs}
use Rattle.ob_session.proofs.laws.sessions_are_runs.Goals as goal

pub returns : goal.returns
returns c = session_runs
