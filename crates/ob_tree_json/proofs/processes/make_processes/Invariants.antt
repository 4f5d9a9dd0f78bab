use Rattle.std.proofs.Common.{◌≡◌, map, take}
use Rattle.serde_json.specs.View.{view}
use Rattle.ob_tree_json.specs.Json.{process_value}
use Rattle.ob_tree_json.proofs.processes.make_processes.Given as goal

abbrev pub invariant-loop-process : goal.invariant-loop-process
invariant-loop-process l = map view l.list.items ≡ map process_value (take l.process-index l.processes)
