use Rattle.std.proofs.Common.{length}
use Rattle.ob_worker_lines.proofs.SoFar.{IsReadTo}
use Rattle.ob_worker_lines.proofs.script.cut.Given as goal

-- the script is read up to the rest
abbrev pub invariant-loop-lines : goal.invariant-loop-lines
invariant-loop-lines l = IsReadTo l.script l.before l.workers.items l.rest l.number

abbrev pub decreases-loop-lines : goal.decreases-loop-lines
decreases-loop-lines l = length l.rest
