-- One stale opening after another goes from the front.
use Rattle.std.proofs.Common.{refl, arith}
use Rattle.std.proofs.lemmas.List.{nil_from_length}
use Rattle.std.proofs.lemmas.Option.{slice_get_read}
use Rattle.slab.specs.Slab.{get}
use Rattle.ob_handles.proofs.Stale.{none_goes, more_go, oldest_popped, first_of_none, first_of_held, none_held, some_held}
use Rattle.ob_handles.proofs.openings.drop_oldest.Goals as goal

pub loop-oldest-init : goal.loop-oldest-init
loop-oldest-init c = none_goes (get c.args.rows.now) c.args.opened.now.items

pub loop-oldest-preserved : goal.loop-oldest-preserved
loop-oldest-preserved c =
    let opened = c.loop-oldest.opened in
    let stale = none_held _ c.held_by.result c.is_some.result c.held_by.ensures c.is_some.ensures c.if-is_some.false in
    more_go (get c.args.rows.now) c.args.opened.now.items opened.items c.pop_front.new.self.items c.loop-oldest.invariant
    (oldest_popped (get c.args.rows.now) opened.items c.pop_front.new.self.items opened.len c.pop_front.result c.in-Some.oldest.now (c.in-Some.ensures.variant.0 refl) c.in-Some.ensures.lookup
    c.pop_front.ensures.value c.pop_front.ensures.items stale)

pub returns-then-is_some-clause-first : goal.returns-then-is_some-clause-first
returns-then-is_some-clause-first c =
    let opened = c.loop-oldest.opened in
    let held = some_held _ c.held_by.result c.is_some.result c.held_by.ensures c.is_some.ensures c.if-is_some.true in
    first_of_held (get c.args.rows.now) opened.items c.in-Some.oldest.now
    (slice_get_read opened.items opened.len 0 c.in-Some.oldest.now opened.ok.0 (c.in-Some.ensures.variant.0 refl) c.in-Some.ensures.lookup) held

pub returns-clause-first : goal.returns-clause-first
returns-clause-first c =
    first_of_none (get c.args.rows.now) c.loop-oldest.opened.items (nil_from_length c.loop-oldest.opened.items (omega (arith, c.in_default.ensures.item.3)))
