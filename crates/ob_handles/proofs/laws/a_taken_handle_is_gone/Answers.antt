use Rattle.ob_handles.proofs.Lists.{taken_handle_is_gone, others_are_found_without}
use Rattle.ob_handles.proofs.laws.a_taken_handle_is_gone.Goals as goal

pub returns-clause-gone : goal.returns-clause-gone
returns-clause-gone c = taken_handle_is_gone

pub returns-clause-others : goal.returns-clause-others
returns-clause-others c = others_are_found_without
