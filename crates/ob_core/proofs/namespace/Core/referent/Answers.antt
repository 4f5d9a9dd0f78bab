-- The object of a handle stands, so it is always lent.
use Rattle.ob_core.proofs.Referents.{held_has_body}
use Rattle.ob_core.proofs.namespace.Core.referent.Goals as goal

pub returns-in_err-referent-clause-exact : goal.returns-in_err-referent-clause-exact
returns-in_err-referent-clause-exact g c =
    absurd (held_has_body c.self.inside.space c.self.invariant.0.sound c.args.process c.args.handle c.in_ok-held.held c.in_ok-held.ensures c.in_err-referent.ensures)
