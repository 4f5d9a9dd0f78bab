use Rattle.std.proofs.Common.{length}
use Rattle.ob_parts.proofs.sort.+stop_of.Given as goal

abbrev pub decreases-stop_of : goal.decreases-stop_of
decreases-stop_of l = length l.parts.now
