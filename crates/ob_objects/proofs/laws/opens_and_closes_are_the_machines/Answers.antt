use Rattle.ob_objects.proofs.Shown.{opened_is_machines, closed_is_machines}
use Rattle.ob_objects.proofs.laws.opens_and_closes_are_the_machines.Goals as goal

pub returns-clause-opened : goal.returns-clause-opened
returns-clause-opened g c = opened_is_machines

pub returns-clause-closed : goal.returns-clause-closed
returns-clause-closed g c = closed_is_machines
