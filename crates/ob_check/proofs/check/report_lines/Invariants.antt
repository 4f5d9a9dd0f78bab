use Rattle.std.proofs.Common.{◌+◌, ◌≤◌, length}
use Rattle.std.specs.Vec.{vec_capacity}
use Rattle.ob_worker_lines.specs.Phases.{HasFewWorkers}
use Rattle.ob_check.proofs.Reported.{ReportsSoFar}
use Rattle.ob_check.proofs.check.report_lines.Given as goal

-- the first lines are reported, each has a byte of its own, and the block has its room
abbrev pub invariant-loop-line : goal.invariant-loop-line
invariant-loop-line g l =
    ReportsSoFar (g.W.Write.contents l.initial.writer) (g.W.Write.contents l.writer) l.block.items l.script l.rest l.number l.phase l.checked
    × (l.number + length l.rest ≤ length l.script) × (192 ≤ vec_capacity l.block) × HasFewWorkers l.phase

abbrev pub decreases-loop-line : goal.decreases-loop-line
decreases-loop-line g l = length l.rest
