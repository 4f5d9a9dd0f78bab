use Rattle.ob_objects.proofs.Follow.{refusal_is_machines, set_after_open_is_machines, set_after_close_is_machines}
use Rattle.ob_objects.proofs.laws.set_is_the_machines.Goals as goal

pub returns-clause-refused : goal.returns-clause-refused
returns-clause-refused g c = refusal_is_machines

pub returns-clause-opened : goal.returns-clause-opened
returns-clause-opened g c = set_after_open_is_machines

pub returns-clause-closed : goal.returns-clause-closed
returns-clause-closed g c = set_after_close_is_machines
