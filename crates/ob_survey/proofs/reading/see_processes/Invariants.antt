-- The processes so far, and those that follow, are all.
use Rattle.std.proofs.Common.{◌≡◌, ◌-◌, ◌++◌}
use Rattle.ob_survey.specs.Surveying.{processes_from}
use Rattle.ob_survey.proofs.reading.see_processes.Given as goal

abbrev pub invariant-loop-step : goal.invariant-loop-step
invariant-loop-step g l = l.seen.items ++ processes_from (l.core.next_process - l.step) l.core l.last ≡ processes_from l.core.next_process l.core 0
