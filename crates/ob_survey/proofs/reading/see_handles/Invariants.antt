-- The handles so far, and those that follow, are all.
use Rattle.std.proofs.Common.{◌≡◌, ◌-◌, ◌++◌}
use Rattle.ob_model.specs.State.{table_size}
use Rattle.ob_survey.specs.Surveying.{handles_from}
use Rattle.ob_survey.proofs.reading.see_handles.Given as goal

abbrev pub invariant-loop-step : goal.invariant-loop-step
invariant-loop-step g l = l.seen.items ++ handles_from (table_size l.core l.process - l.step) l.core l.process l.order ≡ handles_from (table_size l.core l.process) l.core l.process 0
