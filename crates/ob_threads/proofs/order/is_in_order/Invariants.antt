-- How far the segments so far came in order.
use Rattle.std.proofs.Common.{◌≡◌, map, take}
use Rattle.std.specs.Arc.{arc_value}
use Rattle.ob_entries.specs.Segments.{joined}
use Rattle.ob_threads.specs.Order.{followed}
use Rattle.ob_threads.specs.declared.order.Order.TheVariants.{Begun}
use Rattle.ob_threads.proofs.order.is_in_order.Given as goal

abbrev pub invariant-loop-segment : goal.invariant-loop-segment
invariant-loop-segment l = l.order ≡ followed (Begun l.fn.begun) (joined (take l.segment-index (map arc_value l.sealed)))
