use Rattle.std.proofs.Common.{◌≡◌, map, take}
use Rattle.serde_json.specs.View.{view}
use Rattle.ob_tree_json.specs.Json.{handle_value}
use Rattle.ob_tree_json.proofs.processes.make_handles.Given as goal

abbrev pub invariant-loop-held : goal.invariant-loop-held
invariant-loop-held l = map view l.list.items ≡ map handle_value (take l.held-index l.handles)
