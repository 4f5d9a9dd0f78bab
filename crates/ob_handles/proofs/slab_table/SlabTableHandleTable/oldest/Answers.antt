-- The first opening leads to the first handle.
use Rattle.std.proofs.Common.{◌∙◌, None, Some, refl, arith}
use Rattle.std.proofs.lemmas.Option.{slice_get_past, slice_get_read}
use Rattle.slab.specs.Slab.{get, slab_len}
use Rattle.ob_handles.proofs.Inside.{first_now}
use Rattle.ob_handles.proofs.slab_table.SlabTableHandleTable.oldest.Goals as goal

pub returns-in_err-oldest : goal.returns-in_err-oldest
returns-in_err-oldest c =
    let opened = c.self.inside.opened.items in
    c.from_residual.ensures
    ∙ first_now (get c.self.inside.rows) c.self.inside.foreign.entries opened (slab_len c.self.inside.rows) c.self.invariant c.args.self.now c.self.view_is None
    (slice_get_past opened 0 (omega (arith, c.in_err-oldest.ensures.item.3)))

pub returns : goal.returns
returns c =
    let opened = c.self.inside.opened in
    c.held_by.ensures
    ∙ first_now (get c.self.inside.rows) c.self.inside.foreign.entries opened.items (slab_len c.self.inside.rows) c.self.invariant c.args.self.now c.self.view_is (Some c.in_ok-oldest.oldest.now)
    (slice_get_read opened.items opened.len 0 c.in_ok-oldest.oldest.now opened.ok.0 (c.in_ok-oldest.ensures.variant.0 refl) c.in_ok-oldest.ensures.lookup)
