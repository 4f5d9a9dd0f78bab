-- One run alone has the lines before, and the machine has one choice.
use Rattle.ob_journal.proofs.Runs.{stops_is_refused}
use Rattle.ob_journal.proofs.laws.what_stops_is_refused.Goals as goal

pub returns : goal.returns
returns c = stops_is_refused c.codes_tell_statuses.ensures
