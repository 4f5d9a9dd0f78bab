use Rattle.ob_dirs.proofs.Rows.{no_entries, one_more_entry, row_elsewhere, entry_taken}
use Rattle.ob_dirs.proofs.dir.entries_follow_the_rows.Goals as goal

pub returns-clause-none : goal.returns-clause-none
returns-clause-none c = no_entries

pub returns-clause-inserted : goal.returns-clause-inserted
returns-clause-inserted c = one_more_entry

pub returns-clause-elsewhere : goal.returns-clause-elsewhere
returns-clause-elsewhere c = row_elsewhere

pub returns-clause-removed : goal.returns-clause-removed
returns-clause-removed c = entry_taken
