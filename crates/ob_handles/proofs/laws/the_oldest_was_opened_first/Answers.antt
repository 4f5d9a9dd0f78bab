use Rattle.ob_handles.proofs.Lists.{oldest_is_before_all}
use Rattle.ob_handles.proofs.laws.the_oldest_was_opened_first.Goals as goal

pub returns : goal.returns
returns c = oldest_is_before_all
