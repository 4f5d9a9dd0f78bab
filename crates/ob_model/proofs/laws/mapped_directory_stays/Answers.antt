use Rattle.ob_model.proofs.Maps.{mapped_stays, map_is_directory}
use Rattle.ob_model.proofs.Steps.{step_sound}
use Rattle.ob_model.proofs.laws.mapped_directory_stays.Goals as goal

pub returns-clause-stays : goal.returns-clause-stays
returns-clause-stays g c = mapped_stays

pub returns-clause-directory : goal.returns-clause-directory
returns-clause-directory g c = λ g s t event answer p d sound step has. map_is_directory t p d (step_sound g s t event answer sound step) has
