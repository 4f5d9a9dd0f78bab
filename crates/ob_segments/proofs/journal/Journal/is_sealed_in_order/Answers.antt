use Rattle.std.proofs.Common.{subst}
use Rattle.ob_entries.specs.Segments.{AreSealed}
use Rattle.ob_segments.proofs.Lists.{AreSealed-take}
use Rattle.ob_segments.proofs.journal.Journal.is_sealed_in_order.Goals as goal

pub returns-clause-order : goal.returns-clause-order
returns-clause-order g c =
    subst (λ p. AreSealed 1 1 p.journal.sealed) c.self.view_is (AreSealed-take 1 1 c.self.inside.shown _ c.self.invariant.order)
