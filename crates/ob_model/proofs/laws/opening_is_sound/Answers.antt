-- Its two directories stand, and so does each object that a row names; there is no map and no handle.
use Rattle.ob_model.proofs.Soundness.{opening_sound}
use Rattle.ob_model.proofs.laws.opening_is_sound.Goals as goal

pub returns : goal.returns
returns g c = opening_sound
