-- The entries so far are what the items so far say.
use Rattle.std.proofs.Common.{◌≡◌, Some, take}
use Rattle.serde_json.specs.View.{items_view}
use Rattle.ob_reader.specs.Reading.{each_in, listed_in}
use Rattle.ob_reader.proofs.replies.read_entries.Given as goal

abbrev pub invariant-loop-item : goal.invariant-loop-item
invariant-loop-item l = each_in listed_in (items_view (take l.item-index l.items)) ≡ Some l.entries.items
