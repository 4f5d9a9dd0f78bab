use Rattle.std.proofs.Common.{◌≡◌, map, take}
use Rattle.serde_json.specs.View.{view}
use Rattle.ob_entries.specs.Lines.{listed_value}
use Rattle.ob_entries.proofs.replies.make_entries.Given as goal

abbrev pub invariant-loop-entry : goal.invariant-loop-entry
invariant-loop-entry l = map view l.list.items ≡ map listed_value (take l.entry-index l.entries)
