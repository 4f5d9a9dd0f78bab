-- Each entry counts one.
use Rattle.ob_journal.proofs.Cut.{told_counted, told_whole}
use Rattle.ob_journal.proofs.laws.what_is_told_is_counted.Goals as goal

pub returns-clause-counted : goal.returns-clause-counted
returns-clause-counted c = told_counted

pub returns-clause-whole : goal.returns-clause-whole
returns-clause-whole c = told_whole
