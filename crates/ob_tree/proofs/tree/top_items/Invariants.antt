-- The items of the ids passed were pushed, which are the last ones.
use Rattle.std.proofs.Common.{◌≡◌, ◌-◌, map, drop, length, reverse}
use Rattle.ob_tree.specs.Tree.{top_item}
use Rattle.ob_tree.proofs.tree.top_items.Given as goal

abbrev pub invariant-loop-step : goal.invariant-loop-step
invariant-loop-step l = reverse l.items.items ≡ map top_item (drop (length l.ids - l.step) l.ids)
