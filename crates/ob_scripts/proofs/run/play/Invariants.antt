use Rattle.std.proofs.Common.{◌+◌, ◌≤◌, length}
use Rattle.std.specs.Vec.{vec_capacity}
use Rattle.ob_effects.specs.Kept.{IsSession, variables_of, space_of}
use Rattle.ob_scripts.proofs.Behind.{StandsBehind}
use Rattle.ob_scripts.proofs.run.play.Given as goal

-- the rest is after what was run and gathered, each line so far has a byte of its own, the block
-- has its room, and the session is one
abbrev pub invariant-loop-line : goal.invariant-loop-line
invariant-loop-line g l =
    StandsBehind (g.W.Write.contents l.initial.writer) (g.W.Write.contents l.writer) l.block.items l.script l.rest l.number (variables_of l.session) (space_of l.session)
    × (l.number + length l.rest ≤ length l.script) × (192 ≤ vec_capacity l.block) × IsSession l.session

abbrev pub decreases-loop-line : goal.decreases-loop-line
decreases-loop-line g l = length l.rest
