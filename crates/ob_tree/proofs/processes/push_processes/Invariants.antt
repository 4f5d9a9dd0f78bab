-- The processes passed were added.
use Rattle.std.proofs.Common.{◌≡◌, ◌++◌, drop}
use Rattle.ob_tree.specs.Tree.{processes_text}
use Rattle.ob_tree.proofs.processes.push_processes.Given as goal

abbrev pub invariant-loop-process : goal.invariant-loop-process
invariant-loop-process l = l.out.items ++ processes_text l.names (drop l.process-index l.processes) ≡ l.initial.out.items ++ processes_text l.names l.processes
