-- The ends are judged in alike states, of one end of the parse.
use Rattle.ob_model.proofs.AlikeResumes.{resume_stays, abandon_stays}
use Rattle.ob_model.proofs.laws.resumes_stay_alike.Goals as goal

pub returns-clause-resumes : goal.returns-clause-resumes
returns-clause-resumes g c = λ g s t ticket parse a b u v alike h k. resume_stays g s t alike a b u v ticket parse h k

pub returns-clause-abandons : goal.returns-clause-abandons
returns-clause-abandons g c = λ g s t ticket parse a b u v alike h k. abandon_stays g s t alike a b u v ticket parse h k
