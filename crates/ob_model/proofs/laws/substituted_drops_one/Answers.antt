-- The front ends in a separator and the rest begins with one.
use Rattle.ob_model.proofs.Splits.{substituted-drops}
use Rattle.ob_model.proofs.laws.substituted_drops_one.Goals as goal

pub returns : goal.returns
returns c = substituted-drops
