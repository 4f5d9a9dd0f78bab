-- The bytes up to the next separator are determined, and so is each component in turn.
use Rattle.ob_model.proofs.Splits.{split_unique}
use Rattle.ob_model.proofs.laws.split_is_unique.Goals as goal

pub returns : goal.returns
returns c = split_unique
