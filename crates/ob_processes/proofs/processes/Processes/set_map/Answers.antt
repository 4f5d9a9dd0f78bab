-- The map of the process is written, or no process is there.
use Rattle.std.proofs.Common.{Some}
use Rattle.ob_processes.proofs.Mapped.{map_written, map_left}
use Rattle.ob_processes.proofs.processes.Processes.set_map.Goals as goal

pub returns-in_ok-set-clause-processes : goal.returns-in_ok-set-clause-processes
returns-in_ok-set-clause-processes g c =
    map_written c.self.inside.maps c.self.inside.live.entries c.self.inside.total c.self.invariant.running c.args.self.now c.self.view_is c.args.process (Some c.args.directory)
    c.set.new.self c.in_ok-set.ensures.set

pub returns-else-contains_key-clause-processes : goal.returns-else-contains_key-clause-processes
returns-else-contains_key-clause-processes g c =
    map_left c.self.inside.maps c.self.inside.live.entries c.self.inside.total c.self.invariant.running c.args.self.now c.self.view_is c.args.process (Some c.args.directory)
    c.process.inside.0 c.process.view_is c.contains_key.result c.contains_key.ensures c.if-contains_key.false
