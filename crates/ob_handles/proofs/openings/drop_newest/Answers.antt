-- One stale opening after another goes from the end.
use Rattle.std.proofs.Common.{◌-◌, refl, arith, take}
use Rattle.std.proofs.lemmas.List.{nil_from_length}
use Rattle.slab.specs.Slab.{get}
use Rattle.ob_handles.proofs.SlabLists.{split_last}
use Rattle.ob_handles.proofs.Stale.{none_goes, more_go, newest_popped, newest_of_none, newest_of_held, none_held, some_held}
use Rattle.ob_handles.proofs.openings.drop_newest.Goals as goal

pub loop-newest-init : goal.loop-newest-init
loop-newest-init c = none_goes (get c.args.rows.now) c.args.opened.now.items

pub loop-newest-preserved : goal.loop-newest-preserved
loop-newest-preserved c =
    let opened = c.loop-newest.opened in
    let stale = none_held _ c.held_by.result c.is_some.result c.held_by.ensures c.is_some.ensures c.if-is_some.false in
    more_go (get c.args.rows.now) c.args.opened.now.items opened.items c.pop_back.new.self.items c.loop-newest.invariant
    (newest_popped (get c.args.rows.now) opened.items c.pop_back.new.self.items opened.len c.pop_back.result c.in-Some.newest.now (c.in-Some.ensures.variant.0 refl) c.in-Some.ensures.lookup
    c.pop_back.ensures.value c.pop_back.ensures.items stale)

pub returns-then-is_some-clause-newest : goal.returns-then-is_some-clause-newest
returns-then-is_some-clause-newest c =
    let opened = c.loop-newest.opened in
    let held = some_held _ c.held_by.result c.is_some.result c.held_by.ensures c.is_some.ensures c.if-is_some.true in
    newest_of_held (get c.args.rows.now) opened.items (take (opened.len - 1) opened.items) c.in-Some.newest.now
    (split_last opened.items opened.len c.in-Some.newest.now opened.ok.0 (c.in-Some.ensures.variant.0 refl) c.in-Some.ensures.lookup) (c.loop-newest.invariant.rising c.requires) held

pub returns-clause-newest : goal.returns-clause-newest
returns-clause-newest c =
    newest_of_none (get c.args.rows.now) c.loop-newest.opened.items (nil_from_length c.loop-newest.opened.items (omega (arith, c.in_default.ensures.item.3)))
