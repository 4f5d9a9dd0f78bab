use Rattle.std.proofs.Common.{ap, ◌∙◌, arith}
use Rattle.std.specs.Arc.{arc_value}
use Rattle.ob_segments.proofs.Lists.{first-of}
use Rattle.ob_segments.proofs.journal.place_of.Goals as goal

pub loop-high-preserved-then-deref-number : goal.loop-high-preserved-then-deref-number
loop-high-preserved-then-deref-number g c =
    let e = first-of arc_value c.args.sealed.now _ c.index-sealed-middle.result c.requires.order (omega arith) c.index-sealed-middle.is in
    let f = ap (λ s. s.first) (c.behind-sealed.view_is ∙ c.deref.ensures) in
    record { apart = omega arith; within = omega arith; after = omega (arith, e, f); up_to = omega arith }

pub loop-high-preserved : goal.loop-high-preserved
loop-high-preserved g c =
    let e = first-of arc_value c.args.sealed.now _ c.index-sealed-middle.result c.requires.order (omega arith) c.index-sealed-middle.is in
    let f = ap (λ s. s.first) (c.behind-sealed.view_is ∙ c.deref.ensures) in
    record { apart = omega arith; within = omega arith; after = omega arith; up_to = omega (arith, e, f) }
