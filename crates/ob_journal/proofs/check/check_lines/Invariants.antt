use Rattle.std.proofs.Common.{length}
use Rattle.ob_journal.proofs.SoFar.{IsPlayedTo}
use Rattle.ob_journal.proofs.check.check_lines.Given as goal

-- the lines in front of the rest are played
abbrev pub invariant-loop-line : goal.invariant-loop-line
invariant-loop-line l = IsPlayedTo l.fn.header l.lines l.replay l.rest l.number

abbrev pub decreases-loop-line : goal.decreases-loop-line
decreases-loop-line l = length l.rest
