-- Both are prefixes of what is known by both, and so the shorter one is a prefix of the longer.
use Rattle.std.proofs.Common.{◌≤◌, List, ap, arith, length, leb-true, subst}
use mathlib.Core.List.{IsPrefix}
use Rattle.ob_published.specs.declared.publication.Publication.{Publication}
use Rattle.ob_published.proofs.Prefixes.{prefix_shorter}
use Rattle.ob_published.proofs.published.Published.precedes.Goals as goal

pub returns-clause-prefix : goal.returns-clause-prefix
returns-clause-prefix g c =
    let both = c.learn.new.self.log in
    let this : IsPrefix c.self.inside.seen.log both = subst (λ (l : List Publication). IsPrefix l both) (ap (λ s. s.log) c.again-both.ensures) c.learn.ensures.2 in
    λ precedes.
    let less : length c.self.inside.seen.log ≤ length c.other.inside.seen.log =
    omega (arith, c.self.invariant.counted, c.other.invariant.counted, leb-true c.self.inside.count c.other.inside.count precedes) in
    rw (← c.self.view_is, ← c.other.view_is) (prefix_shorter c.self.inside.seen.log c.other.inside.seen.log both this c.learn.ensures.3 less)
