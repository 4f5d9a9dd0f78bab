-- The items of the entries passed were pushed, which are the last ones.
use Rattle.std.proofs.Common.{◌≡◌, ◌-◌, ◌++◌, map, drop, length, reverse}
use Rattle.ob_tree.specs.Tree.{middle_item}
use Rattle.ob_tree.proofs.lines.push_middle_items.Given as goal

abbrev pub invariant-loop-step : goal.invariant-loop-step
invariant-loop-step l = reverse l.items.items ≡ map (λ e. middle_item l.indent e.object) (drop (length l.entries - l.step) l.entries) ++ reverse l.fn.items.items
