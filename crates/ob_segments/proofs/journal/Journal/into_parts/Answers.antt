use Rattle.std.proofs.Common.{◌∙◌, ap}
use Rattle.ob_segments.specs.Journal.{whole}
use Rattle.ob_segments.proofs.Lists.{whole-seen}
use Rattle.ob_segments.proofs.journal.Journal.into_parts.Goals as goal

pub returns-clause-whole : goal.returns-clause-whole
returns-clause-whole g c = whole-seen _ c.self.inside.shown _ c.self.inside.places ∙ ap (λ p. whole p.journal) c.self.view_is
