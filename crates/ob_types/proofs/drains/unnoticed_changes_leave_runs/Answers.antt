-- Each step of the run, one after another.
use Rattle.ob_types.proofs.UnnoticedRuns.{runs_stay}
use Rattle.ob_types.proofs.drains.unnoticed_changes_leave_runs.Goals as goal

pub returns : goal.returns
returns g c = runs_stay
