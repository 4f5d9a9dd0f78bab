-- The components lead on from equal objects, one after another.
use Rattle.ob_model.proofs.Unique.{path_unique}
use Rattle.ob_model.proofs.laws.path_is_unique.Goals as goal

pub returns : goal.returns
returns g c = path_unique
