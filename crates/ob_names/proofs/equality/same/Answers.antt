use Rattle.ob_names.proofs.Folding.{same_name-by_lowercase}
use Rattle.ob_names.proofs.equality.same.Goals as goal

pub returns-then-fold : goal.returns-then-fold
returns-then-fold c = rw c.if-fold.true (same_name-by_lowercase _ _ _ c.eq_ignore_ascii_case.ensures.test)
