use Rattle.std.proofs.Common.{◌≡◌, ◌-◌, length}
use Rattle.ob_c.specs.Rows.{names_room}
use Rattle.ob_c.proofs.RowsLemmas.{IsAt}
use Rattle.ob_c.proofs.rows.fill_rows.Given as goal

-- what was read so far stands in front, and the query after it has ended
abbrev pub invariant-loop-alloc : goal.invariant-loop-alloc
invariant-loop-alloc l =
    IsAt l.process l.handle l.fn.core l.fn.context l.fn.rows l.fn.buffer l.progress l.ended l.core l.rows l.buffer
    × (l.room ≡ names_room (length l.fn.buffer))

abbrev pub decreases-loop-alloc : goal.decreases-loop-alloc
decreases-loop-alloc l = length l.fn.rows - l.progress.filled
