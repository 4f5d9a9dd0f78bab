-- The open segment comes after the sealed ones.
use Rattle.std.proofs.Common.{◌≡◌, ◌∙◌, ◌+◌, ◌++◌, length, map, ap, sym, arith}
use Rattle.std.proofs.lemmas.List.{length-map}
use Rattle.std.specs.Arc.{arc_value}
use Rattle.ob_locked.proofs.Keeps.{whole_few, open_first}
use Rattle.ob_locked.proofs.locked.Locked.into_parts.Goals as goal

pub overflow_add-open-2 : goal.overflow_add-open-2
overflow_add-open-2 g c =
    omega (arith, c.len-count.ensures, whole_few c.self.inside.journal.journal c.is_sealed_in_order.ensures.order c.is_sealed_in_order.ensures.few (omega (arith, c.self.invariant.few)))

pub returns-clause-open : goal.returns-clause-open
returns-clause-open g c =
    let sealed = c.into_parts-sealed.result.0 in
    let rest = c.into_parts-sealed.result.1 in
    open_first (map arc_value sealed.items) rest.items _ _ c.len-count.result (omega (arith, c.len.ensures, sealed.ok, length-map sealed.items arc_value))
    (c.len-count.ensures ∙ ap length (sym c.into_parts-sealed.ensures.whole)) (omega (arith, c.len-2.ensures, rest.ok))
