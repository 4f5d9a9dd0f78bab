-- The publisher keeps what it did, because the history is later.
use Rattle.ob_shared.proofs.Keeping.{keeps_on}
use Rattle.ob_shared.proofs.guarded.Guarded.resume.Goals as goal

pub invariant_of-self : goal.invariant_of-self
invariant_of-self g c =
    λ publishes. keeps_on g.T.TypeSet.procedures g.P.Publishing.opening g.P.Publishing.leads c.self.inside.mirror (g.P.Publishing.recorded c.self.inside.publisher) c.self.inside.locked c.resume_under.new.locked c.resume_under.ensures.later (c.self.invariant publishes)
