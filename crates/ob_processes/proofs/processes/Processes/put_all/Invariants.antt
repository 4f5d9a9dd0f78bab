-- Those that were passed stand behind the others.
use Rattle.std.proofs.Common.{◌≡◌, ◌+◌, ◌++◌, take}
use Rattle.ob_processes.specs.Handed.{handed_on}
use Rattle.ob_processes.proofs.processes.Processes.put_all.Given as goal

abbrev pub invariant-loop-held : goal.invariant-loop-held
invariant-loop-held g l =
    record {
      handles : l.self.handles ≡ l.fn.self.handles ++ handed_on l.fn.process l.fn.order (take l.held-index l.fn.inherited);
      processes : l.self.processes ≡ l.fn.self.processes;
      next : l.next ≡ l.fn.order + l.held-index;
    }
