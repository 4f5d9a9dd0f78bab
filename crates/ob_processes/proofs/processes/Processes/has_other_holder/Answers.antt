-- The handles to the object that aren't of the process are of others.
use Rattle.ob_processes.proofs.Kept.{other_holder}
use Rattle.ob_processes.proofs.processes.Processes.has_other_holder.Goals as goal

pub returns : goal.returns
returns g c =
    other_holder c.args.process c.args.object c.count_in.result c.count_of.result c.args.self.now.handles c.count_in.ensures c.count_of.ensures
