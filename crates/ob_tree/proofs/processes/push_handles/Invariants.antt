-- The handles passed were added.
use Rattle.std.proofs.Common.{◌≡◌, ◌+◌, ◌++◌, drop}
use Rattle.ob_tree.specs.Tree.{handles_text}
use Rattle.ob_tree.proofs.processes.push_handles.Given as goal

abbrev pub invariant-loop-place : goal.invariant-loop-place
invariant-loop-place l = l.out.items ++ handles_text l.names (l.place + 1) (drop l.place l.handles) ≡ l.initial.out.items ++ handles_text l.names 1 l.handles
