-- The lines so far, and those that are still to be written, are all.
use Rattle.std.proofs.Common.{◌≡◌, ◌-◌, ◌++◌, map, reverse}
use Rattle.ob_tree.specs.Index.{named_by}
use Rattle.ob_tree.specs.Tree.{lines_text}
use Rattle.ob_tree.proofs.tree.push_lines.Given as goal

abbrev pub invariant-loop-step : goal.invariant-loop-step
invariant-loop-step l =
    l.out.items ++ lines_text l.style l.names (map named_by l.entries) (l.count - l.step) (reverse l.items.items)
    ≡ l.initial.out.items ++ lines_text l.style l.names (map named_by l.entries) l.count (reverse l.initial.items.items)
