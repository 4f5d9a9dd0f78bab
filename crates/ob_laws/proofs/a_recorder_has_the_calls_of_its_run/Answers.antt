-- Each call that is made is noted, under the serial that its object has in the end.
use Rattle.ob_laws.proofs.RecordedCalls.{recorded_calls}
use Rattle.ob_laws.proofs.a_recorder_has_the_calls_of_its_run.Goals as goal

pub returns : goal.returns
returns g c = recorded_calls
