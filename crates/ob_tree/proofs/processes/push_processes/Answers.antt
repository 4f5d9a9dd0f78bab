-- One process more.
use Rattle.ob_tree.proofs.Writing.{processes_more}
use Rattle.ob_tree.proofs.processes.push_processes.Goals as goal

pub loop-process-preserved : goal.loop-process-preserved
loop-process-preserved c =
    processes_more c.args.names.now c.args.processes.now c.loop-process.process-index c.process-item.result c.loop-process.out.items c.push_process.new.out.items _ c.loop-process-test.true c.process-item.is
    c.in_ok-push_process.ensures c.loop-process.invariant
