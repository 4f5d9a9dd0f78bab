-- How far the entries so far came in order.
use Rattle.std.proofs.Common.{◌≡◌, take}
use Rattle.ob_threads.specs.Order.{followed}
use Rattle.ob_threads.proofs.order.followed.Given as goal

abbrev pub invariant-loop-entry : goal.invariant-loop-entry
invariant-loop-entry l = l.order ≡ followed l.fn.order (take l.entry-index l.entries)
