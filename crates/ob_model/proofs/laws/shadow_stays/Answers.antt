use Rattle.ob_model.proofs.Shadows.{shadow_is_directory, shadow_stays}
use Rattle.ob_model.proofs.laws.shadow_stays.Goals as goal

pub returns-clause-directory : goal.returns-clause-directory
returns-clause-directory g c = shadow_is_directory

pub returns-clause-stays : goal.returns-clause-stays
returns-clause-stays g c = shadow_stays
