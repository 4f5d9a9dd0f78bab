-- Stale openings go from the end, from the front and, where they are many, from between.
use Rattle.std.proofs.Common.{◌∙◌, ◌≡◌, ap, arith, length}
use Rattle.slab.specs.Slab.{get}
use Rattle.ob_handles.specs.Openings.{held_by, handles_of}
use Rattle.ob_handles.proofs.SlabLists.{length-filter_some}
use Rattle.ob_handles.proofs.Stale.{more_go, all_go, first_of_all, newest_stays}
use Rattle.ob_handles.proofs.openings.drop_stale.Goals as goal

pub returns-then-len-handles-clause-stale : goal.returns-then-len-handles-clause-stale
returns-then-len-handles-clause-stale c =
    more_go (get c.args.rows.now) c.args.opened.now.items c.drop_newest.new.opened.items c.drop_oldest.new.opened.items c.drop_newest.ensures.stale c.drop_oldest.ensures.stale

pub returns-then-len-handles-clause-newest : goal.returns-then-len-handles-clause-newest
returns-then-len-handles-clause-newest c =
    newest_stays (get c.args.rows.now) c.drop_newest.new.opened.items c.drop_oldest.new.opened.items c.drop_oldest.ensures.stale c.drop_newest.ensures.newest

pub returns-clause-stale : goal.returns-clause-stale
returns-clause-stale c =
    let rows = get c.args.rows.now in
    let last = c.drop_all.new.opened.items in
    more_go rows c.args.opened.now.items c.drop_oldest.new.opened.items last
    (more_go rows c.args.opened.now.items c.drop_newest.new.opened.items c.drop_oldest.new.opened.items c.drop_newest.ensures.stale c.drop_oldest.ensures.stale)
    (all_go rows c.drop_oldest.new.opened.items last c.drop_all.ensures)

pub returns-clause-first : goal.returns-clause-first
returns-clause-first c = first_of_all (get c.args.rows.now) c.drop_oldest.new.opened.items c.drop_all.new.opened.items c.drop_all.ensures

pub returns-clause-newest : goal.returns-clause-newest
returns-clause-newest c =
    let rows = get c.args.rows.now in
    newest_stays rows c.drop_oldest.new.opened.items c.drop_all.new.opened.items (all_go rows c.drop_oldest.new.opened.items c.drop_all.new.opened.items c.drop_all.ensures)
    (newest_stays rows c.drop_newest.new.opened.items c.drop_oldest.new.opened.items c.drop_oldest.ensures.stale c.drop_newest.ensures.newest)

pub returns-clause-few : goal.returns-clause-few
returns-clause-few c = λ fits.
    let rows = get c.args.rows.now in
    let all : length c.drop_all.new.opened.items ≡ length (handles_of rows c.drop_oldest.new.opened.items) =
    ap length c.drop_all.ensures ∙ length-filter_some (held_by rows) c.drop_oldest.new.opened.items
    in
    let handles : length (handles_of rows c.drop_oldest.new.opened.items) ≡ length (handles_of rows c.args.opened.now.items) =
    ap length (c.drop_oldest.ensures.stale.handles ∙ c.drop_newest.ensures.stale.handles)
    in
    omega (arith, all, handles, fits)
