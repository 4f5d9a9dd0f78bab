use Rattle.ob_check.proofs.Cleaned.{clean_cut}
use Rattle.ob_check.proofs.laws.clean_scripts_are_cut.Goals as goal

pub returns : goal.returns
returns c = clean_cut
