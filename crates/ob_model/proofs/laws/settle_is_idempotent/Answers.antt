-- What is alive and what is kept is so again, so no object goes.
use Rattle.ob_model.proofs.Settled.{settle-settle}
use Rattle.ob_model.proofs.laws.settle_is_idempotent.Goals as goal

pub returns : goal.returns
returns g c = settle-settle
