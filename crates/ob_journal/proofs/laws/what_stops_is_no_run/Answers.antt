-- One run alone has the lines before, and the machine has one choice.
use Rattle.ob_journal.proofs.Runs.{stops_is_no_run}
use Rattle.ob_journal.proofs.laws.what_stops_is_no_run.Goals as goal

pub returns : goal.returns
returns c = stops_is_no_run c.codes_tell_statuses.ensures
