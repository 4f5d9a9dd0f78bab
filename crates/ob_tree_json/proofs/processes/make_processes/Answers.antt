-- At the end the list has the values of all.
use Rattle.ob_tree_json.specs.Json.{process_value}
use Rattle.ob_tree_json.proofs.Values.{all_listed}
use Rattle.ob_tree_json.proofs.processes.make_processes.Goals as goal

pub returns : goal.returns
returns c = all_listed process_value c.args.processes.now c.loop-process.list.items c.loop-process.process-index c.loop-process-test.false c.loop-process.invariant
