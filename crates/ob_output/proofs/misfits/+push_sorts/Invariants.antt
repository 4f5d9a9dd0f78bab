use Rattle.std.proofs.Common.{length}
use Rattle.ob_output.proofs.misfits.+push_sorts.Given as goal

abbrev pub decreases-push_sorts : goal.decreases-push_sorts
decreases-push_sorts l = length l.parts.now
