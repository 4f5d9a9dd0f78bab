-- One segment more was followed.
use Rattle.std.proofs.Common.{◌≡◌, ◌∙◌, ◌↔◌, IsTrue, ◌++◌, ◌<◌, map, length, ap, sym, subst, arith}
use Rattle.std.proofs.lemmas.List.{length-map, take_all}
use Rattle.std.specs.Arc.{arc_value}
use Rattle.ob_standard.specs.Standard.{StandardKind}
use Rattle.ob_entries.specs.Segments.{Segment, joined}
use Rattle.ob_threads.specs.Order.{followed, is_whole}
use Rattle.ob_threads.specs.Played.{IsInOrder}
use Rattle.ob_threads.specs.declared.order.Order.TheVariants.{Begun}
use Rattle.ob_threads.proofs.InOrder.{followed_append, followed_more, in_order}
use Rattle.ob_threads.proofs.CutOff.{mapped_at}
use Rattle.ob_threads.proofs.order.is_in_order.Goals as goal

pub loop-segment-preserved : goal.loop-segment-preserved
loop-segment-preserved c =
    let i = c.loop-segment.segment-index in
    let ss = map arc_value c.args.sealed.now in
    let s = arc_value c.segment-item.result in
    let inside : i < length ss = omega (arith, c.loop-segment-test.true, length-map c.args.sealed.now arc_value) in
    let more = followed_more (Begun c.args.begun) ss i s inside (mapped_at arc_value c.args.sealed.now i c.segment-item.result c.loop-segment-test.true c.segment-item.is) in
    c.followed-order.ensures ∙ (ap (followed c.loop-segment.order) (c.as_slice.ensures.value ∙ ap (λ (x : Segment StandardKind). x.entries) (c.behind-segment.view_is ∙ c.deref.ensures)) ∙ (ap (λ o. followed o s.entries) c.loop-segment.invariant ∙ sym more))

pub returns : goal.returns
returns c =
    let ss = map arc_value c.args.sealed.now in
    let last = c.args.last.now.entries in
    let all = take_all c.loop-segment.segment-index ss (omega (arith, c.loop-segment-test.false, length-map c.args.sealed.now arc_value)) in
    let order : c.loop-segment.order ≡ followed (Begun c.args.begun) (joined ss) = c.loop-segment.invariant ∙ ap (λ l. followed (Begun c.args.begun) (joined l)) all in
    let whole = c.is_whole.ensures ∙ ap is_whole (c.followed.ensures ∙ (ap (followed c.loop-segment.order) (c.as_slice-2.ensures.value ∙ ap (λ (x : Segment StandardKind). x.entries) c.last.view_is) ∙ (ap (λ o. followed o last) order ∙ sym (followed_append (Begun c.args.begun) (joined ss) last)))) in
    subst (λ b. IsTrue b ↔ IsInOrder c.args.begun (joined ss ++ last)) (sym whole) (in_order c.args.begun (joined ss ++ last))
