use Rattle.std.proofs.Common.{◌≡◌, map, take}
use Rattle.serde_json.specs.View.{view}
use Rattle.ob_tree_json.specs.Json.{object_value}
use Rattle.ob_tree_json.proofs.objects.make_objects.Given as goal

abbrev pub invariant-loop-object : goal.invariant-loop-object
invariant-loop-object l = map view l.list.items ≡ map object_value (take l.object-index l.objects)
