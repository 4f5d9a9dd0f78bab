-- At the end the list has the values of all.
use Rattle.ob_tree_json.specs.Json.{handle_value}
use Rattle.ob_tree_json.proofs.Values.{all_listed}
use Rattle.ob_tree_json.proofs.processes.make_handles.Goals as goal

pub returns : goal.returns
returns c = all_listed handle_value c.args.handles.now c.loop-held.list.items c.loop-held.held-index c.loop-held-test.false c.loop-held.invariant
