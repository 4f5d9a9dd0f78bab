use Rattle.std.proofs.Common.{length}
use Rattle.ob_worker_lines.proofs.Whole.{IsReadPart}
use Rattle.ob_worker_lines.proofs.part.take_part.Given as goal

-- the lines in front of the rest are read
abbrev pub invariant-loop-behind : goal.invariant-loop-behind
invariant-loop-behind l = IsReadPart l.script l.rest l.first l.number

abbrev pub decreases-loop-behind : goal.decreases-loop-behind
decreases-loop-behind l = length l.rest
