-- An object with a handle is alive.
use Rattle.ob_model.proofs.Settled.{object_of-settle, alive_from_handle}
use Rattle.ob_model.proofs.laws.held_stays.Goals as goal

pub returns : goal.returns
returns g c = λ g' s o held. object_of-settle g' s o (alive_from_handle s o held)
