-- Two ends go by the same answers.
use Rattle.ob_types.proofs.Runs.{runs_have_one_end}
use Rattle.ob_types.proofs.run.a_parse_run_has_one_end.Goals as goal

pub returns : goal.returns
returns g c = runs_have_one_end g.T.TypeSet.procedures
