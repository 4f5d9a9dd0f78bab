use Rattle.ob_model.proofs.Runs.{run_sound}
use Rattle.ob_model.proofs.WaysUp.{path_names, answer_names}
use Rattle.ob_model.proofs.laws.paths_name_their_objects.Goals as goal

pub returns-clause-paths : goal.returns-clause-paths
returns-clause-paths g c = λ g s o cs p n sound up. path_names s sound g p o cs n up

pub returns-clause-answers : goal.returns-clause-answers
returns-clause-answers g c = λ g first entries s t p handle text q n run step some. answer_names g s t (run_sound g first entries s run) p handle text q n some step
