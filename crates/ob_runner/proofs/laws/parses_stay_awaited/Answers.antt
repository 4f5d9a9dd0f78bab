-- The law holds of each step.
use Rattle.ob_runner.proofs.Awaited.{stay_awaited}
use Rattle.ob_runner.proofs.laws.parses_stay_awaited.Goals as goal

pub returns : goal.returns
returns g c = stay_awaited g.T.TypeSet.procedures
