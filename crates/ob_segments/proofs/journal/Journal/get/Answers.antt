use Rattle.std.proofs.Common.{◌≡◌, ◌-◌, map, ap, ◌∙◌, slice_get, arith}
use Rattle.std.specs.Arc.{arc_value}
use Rattle.ob_segments.proofs.Lists.{first-below, get-sealed, get-tail, get-along, copied-at}
use Rattle.ob_segments.proofs.journal.Journal.get.Goals as goal

pub returns-then-before-number : goal.returns-then-before-number
returns-then-before-number g c =
    let n = c.max-number.result in
    let m : n - 1 ≡ c.args.number - 1 = omega (arith, c.max-number.ensures) in
    let s = c.self.inside in
    let e = get-tail (map arc_value s.sealed.items) s.shown s.tail.items s.places n (omega arith) in
    copied-at c.get.result c.deref.result.now _ (c.get.ensures.lookup.3)
    ∙ ap (λ l. slice_get l (n - s.before - 1)) c.deref.ensures.value
    ∙ ap (λ k. slice_get s.tail.items (n - k - 1)) c.self.invariant.counted
    ∙ get-along _ _ _ _ _ c.self.view_is m e

pub overflow_sub-number-2 : goal.overflow_sub-number-2
overflow_sub-number-2 g c =
    let e = first-below arc_value c.self.inside.sealed.items c.deref-2.result.now c.place_of.result c.max-number.result c.index.result.now c.deref-2.ensures.value c.self.invariant.order c.place_of.ensures.place c.index.ensures c.place_of.ensures.after in
    let f = ap (λ s. s.first) (c.segment.view_is ∙ c.deref-segment.ensures) in
    omega (arith, e, f)

pub returns : goal.returns
returns g c =
    let n = c.max-number.result in
    let m : n - 1 ≡ c.args.number - 1 = omega (arith, c.max-number.ensures) in
    let s = c.self.inside in
    let e = get-sealed arc_value s.sealed.items c.deref-2.result.now s.shown s.tail.items s.places c.place_of.result n c.index.result.now c.deref-2.ensures.value c.self.invariant.order c.place_of.ensures.place c.index.ensures c.place_of.ensures.after c.place_of.ensures.up_to in
    copied-at c.get-2.result c.deref-3.result.now _ (c.get-2.ensures.lookup.3)
    ∙ ap (λ l. slice_get l (n - c.segment.inside.first)) c.deref-3.ensures.value
    ∙ ap (λ s. slice_get s.entries (n - s.first)) (c.segment.view_is ∙ c.deref-segment.ensures)
    ∙ get-along _ _ _ _ _ c.self.view_is m e
