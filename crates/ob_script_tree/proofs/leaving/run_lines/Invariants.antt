use Rattle.std.proofs.Common.{◌+◌, ◌≤◌, length}
use Rattle.ob_effects.specs.Kept.{IsSession, space_of, variables_of}
use Rattle.ob_lines.specs.Lines.{lines_of}
use Rattle.ob_script_tree.specs.Drawing.{Leaves, Left}
use Rattle.ob_script_tree.proofs.leaving.run_lines.Given as goal

-- what the rest leaves the script leaves, and each line so far has a byte of its own
abbrev pub invariant-loop-line : goal.invariant-loop-line
invariant-loop-line l =
    ((left : Left) → Leaves (l.number + 1) (lines_of l.rest) (variables_of l.session) (space_of l.session) left
    → Leaves 1 (lines_of l.script) (variables_of l.initial.session) (space_of l.initial.session) left)
    × (l.number + length l.rest ≤ length l.script) × IsSession l.session

abbrev pub decreases-loop-line : goal.decreases-loop-line
decreases-loop-line l = length l.rest
