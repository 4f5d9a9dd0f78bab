-- One handle more.
use Rattle.ob_tree.proofs.Writing.{handles_more}
use Rattle.ob_tree.proofs.processes.push_handles.Goals as goal

pub loop-place-preserved : goal.loop-place-preserved
loop-place-preserved c =
    handles_more c.args.names.now c.args.handles.now c.loop-place.place c.index-handles-place.result c.loop-place.out.items c.push_handle.new.out.items _ c.loop-place-test.true c.index-handles-place.is
    c.in_ok-push_handle.ensures c.loop-place.invariant
