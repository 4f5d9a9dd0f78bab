-- One step's calls after another's make what the run leaves.
use Rattle.ob_laws.proofs.CallsOfRun.{calls_made}
use Rattle.ob_laws.proofs.calls_are_made.Goals as goal

pub returns : goal.returns
returns g c = calls_made
