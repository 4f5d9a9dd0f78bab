use Rattle.ob_published.proofs.Follow.{entries_follow, rows_follow}
use Rattle.ob_published.proofs.publication.publications_follow_one_another.Goals as goal

pub returns-clause-rows : goal.returns-clause-rows
returns-clause-rows c = rows_follow

pub returns-clause-entries : goal.returns-clause-entries
returns-clause-entries c = entries_follow
