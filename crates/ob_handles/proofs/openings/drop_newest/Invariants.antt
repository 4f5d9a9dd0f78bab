-- Only stale openings went so far.
use Rattle.std.proofs.Common.{deque_len}
use Rattle.slab.specs.Slab.{get}
use Rattle.ob_handles.specs.Openings.{OnlyStaleGo}
use Rattle.ob_handles.proofs.openings.drop_newest.Given as goal

abbrev pub invariant-loop-newest : goal.invariant-loop-newest
invariant-loop-newest l = OnlyStaleGo (get l.rows) l.fn.opened.items l.opened.items

abbrev pub decreases-loop-newest : goal.decreases-loop-newest
decreases-loop-newest l = deque_len l.opened
