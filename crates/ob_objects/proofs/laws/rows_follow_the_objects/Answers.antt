use Rattle.ob_objects.proofs.Shown.{new_object_has_no_row, rows_go_with_directory}
use Rattle.ob_objects.proofs.laws.rows_follow_the_objects.Goals as goal

pub returns-clause-new : goal.returns-clause-new
returns-clause-new g c = new_object_has_no_row

pub returns-clause-gone : goal.returns-clause-gone
returns-clause-gone g c = rows_go_with_directory
