use Rattle.std.proofs.Common.{◌∙◌, ap, length, arith, map}
use Rattle.std.specs.Arc.{arc_value}
use Rattle.ob_segments.specs.Journal.{whole}
use Rattle.ob_segments.proofs.Lists.{length-joined, length-whole, length-unsealed}
use Rattle.ob_segments.proofs.journal.Journal.len.Goals as goal

pub overflow_add-result : goal.overflow_add-result
overflow_add-result g c =
    let ss = map arc_value c.self.inside.sealed.items in
    let n = length-unsealed ss c.self.inside.shown c.self.inside.tail.items c.self.inside.places ∙ ap (λ p. length p.journal.unsealed) c.self.view_is in
    omega (arith, n, length-joined 1 1 ss c.self.invariant.order)

pub returns : goal.returns
returns g c =
    let ss = map arc_value c.self.inside.sealed.items in
    let n = length-whole ss c.self.inside.shown c.self.inside.tail.items c.self.inside.places ∙ ap (λ p. length (whole p.journal)) c.self.view_is in
    omega (arith, n)
