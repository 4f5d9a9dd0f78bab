-- One parse less is kept.
use Rattle.std.proofs.Common.{length}
use Rattle.ob_runner.proofs.waits.Waits.let_go.Given as goal

abbrev pub decreases-loop-parsing : goal.decreases-loop-parsing
decreases-loop-parsing g l = length l.left
