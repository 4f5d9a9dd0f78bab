use Rattle.ob_handles.proofs.Lists.{new_handle_is_found, others_are_found_beside, new_handle_is_taken_back}
use Rattle.ob_handles.proofs.laws.a_new_handle_is_found.Goals as goal

pub returns-clause-found : goal.returns-clause-found
returns-clause-found c = new_handle_is_found

pub returns-clause-others : goal.returns-clause-others
returns-clause-others c = others_are_found_beside

pub returns-clause-back : goal.returns-clause-back
returns-clause-back c = new_handle_is_taken_back
