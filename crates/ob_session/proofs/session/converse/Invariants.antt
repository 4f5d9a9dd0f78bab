-- The lines so far are taken and answered.
use Rattle.std.proofs.Common.{◌≡◌, ◌≤◌, ◌+◌, ℕ, []}
use Rattle.std.specs.Vec.{vec_capacity}
use Rattle.ob_effects.specs.Kept.{IsSession, space_of, variables_of}
use Rattle.ob_session.proofs.Talks.{HasCome}
use Rattle.ob_session.proofs.session.converse.Given as goal

abbrev pub invariant-loop-number : goal.invariant-loop-number
invariant-loop-number g l =
    ((count : ℕ) × (l.number ≡ count + 1) × HasCome (g.R.Read.remaining l.initial.reader) (g.R.Read.remaining l.reader) (variables_of l.initial.session) (variables_of l.session)
    (space_of l.initial.session) (space_of l.session) (g.W.Write.contents l.initial.writer) (g.W.Write.contents l.writer) count)
    × (l.block.items ≡ []) × (192 ≤ vec_capacity l.block) × IsSession l.session
