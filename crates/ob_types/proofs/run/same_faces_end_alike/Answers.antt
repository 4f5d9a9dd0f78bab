-- The first answer is the same, and then all that follows.
use Rattle.ob_types.proofs.Runs.{same_faces_end}
use Rattle.ob_types.proofs.run.same_faces_end_alike.Goals as goal

pub returns : goal.returns
returns g c = same_faces_end g.T.TypeSet.procedures c.same_answers.ensures
