use Rattle.ob_rows.proofs.Changes.{follow, gone_of_none, keep_rising, undone}
use Rattle.ob_rows.proofs.change.changes_follow_one_another.Goals as goal

pub returns-clause-joined : goal.returns-clause-joined
returns-clause-joined c = follow

pub returns-clause-none : goal.returns-clause-none
returns-clause-none c = gone_of_none

pub returns-clause-undone : goal.returns-clause-undone
returns-clause-undone c = undone

pub returns-clause-rising : goal.returns-clause-rising
returns-clause-rising c = keep_rising
