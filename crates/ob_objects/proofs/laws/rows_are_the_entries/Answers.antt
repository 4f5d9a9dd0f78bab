use Rattle.ob_objects.proofs.Shown.{rows_by_stamp, rows_are_entries}
use Rattle.ob_objects.proofs.laws.rows_are_the_entries.Goals as goal

pub returns-clause-by_stamp : goal.returns-clause-by_stamp
returns-clause-by_stamp g c = rows_by_stamp

pub returns-clause-entries : goal.returns-clause-entries
returns-clause-entries g c = rows_are_entries
