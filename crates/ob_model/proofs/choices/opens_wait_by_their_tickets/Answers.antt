-- What a step answers, with the state that it leads to.
use Rattle.ob_model.proofs.Waits.{opens_wait}
use Rattle.ob_model.proofs.choices.opens_wait_by_their_tickets.Goals as goal

pub returns : goal.returns
returns g c = opens_wait
