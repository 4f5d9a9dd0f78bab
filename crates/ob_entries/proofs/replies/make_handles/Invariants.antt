use Rattle.std.proofs.Common.{◌≡◌, map, take}
use Rattle.serde_json.specs.View.{view}
use Rattle.ob_entries.specs.Lines.{number_value}
use Rattle.ob_entries.proofs.replies.make_handles.Given as goal

abbrev pub invariant-loop-handle : goal.invariant-loop-handle
invariant-loop-handle l = map view l.list.items ≡ map number_value (take l.handle-index l.handles)
