-- Each command leaves the state as it is, or changes it in one of the ways that keep it sound.
use Rattle.ob_model.proofs.Steps.{step_sound}
use Rattle.ob_model.proofs.laws.step_stays_sound.Goals as goal

pub returns : goal.returns
returns g c = step_sound
