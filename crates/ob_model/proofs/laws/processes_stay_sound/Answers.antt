-- What a process is given stands, and what goes with it is no object.
use Rattle.ob_model.proofs.Ended.{begun_sound, ended_sound, duplicates_sound}
use Rattle.ob_model.proofs.laws.processes_stay_sound.Goals as goal

pub returns-clause-processes : goal.returns-clause-processes
returns-clause-processes g c = λ procedures s p inherit sound. (begun_sound procedures s p inherit sound, ended_sound procedures s p sound)

pub returns-clause-duplicate : goal.returns-clause-duplicate
returns-clause-duplicate g c = duplicates_sound
