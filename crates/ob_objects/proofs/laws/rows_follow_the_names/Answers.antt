use Rattle.ob_objects.proofs.Shown.{new_name_is_last, row_goes_with_name, names_change_no_object}
use Rattle.ob_objects.proofs.laws.rows_follow_the_names.Goals as goal

pub returns-clause-new : goal.returns-clause-new
returns-clause-new g c = new_name_is_last

pub returns-clause-gone : goal.returns-clause-gone
returns-clause-gone g c = row_goes_with_name

pub returns-clause-objects : goal.returns-clause-objects
returns-clause-objects g c = names_change_no_object
