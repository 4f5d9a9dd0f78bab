-- Only stale openings went so far.
use Rattle.std.proofs.Common.{deque_len}
use Rattle.slab.specs.Slab.{get}
use Rattle.ob_handles.specs.Openings.{OnlyStaleGo}
use Rattle.ob_handles.proofs.openings.drop_oldest.Given as goal

abbrev pub invariant-loop-oldest : goal.invariant-loop-oldest
invariant-loop-oldest l = OnlyStaleGo (get l.rows) l.fn.opened.items l.opened.items

abbrev pub decreases-loop-oldest : goal.decreases-loop-oldest
decreases-loop-oldest l = deque_len l.opened
