-- At the end the list has the values of all.
use Rattle.ob_tree_json.specs.Json.{object_value}
use Rattle.ob_tree_json.proofs.Values.{all_listed}
use Rattle.ob_tree_json.proofs.objects.make_objects.Goals as goal

pub returns : goal.returns
returns c = all_listed object_value c.args.objects.now c.loop-object.list.items c.loop-object.object-index c.loop-object-test.false c.loop-object.invariant
