use Rattle.ob_scripts.proofs.Offsets.{added_in_full}
use Rattle.ob_scripts.proofs.laws.offsets_are_added_in_full.Goals as goal

pub returns : goal.returns
returns c = added_in_full
