-- A step reads the procedures of the set's value alone.
use Rattle.ob_types.proofs.UnnoticedRuns.{steps_stay}
use Rattle.ob_types.proofs.drains.unnoticed_changes_leave_steps.Goals as goal

pub returns : goal.returns
returns g c = steps_stay
