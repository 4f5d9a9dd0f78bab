-- At the end the list has the values of all.
use Rattle.ob_entries.specs.Lines.{number_value}
use Rattle.ob_entries.proofs.Values.{all_listed}
use Rattle.ob_entries.proofs.replies.make_handles.Goals as goal

pub returns : goal.returns
returns c = all_listed number_value c.args.handles.now c.loop-handle.list.items c.loop-handle.handle-index c.loop-handle-test.false c.loop-handle.invariant
