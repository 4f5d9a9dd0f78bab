-- A handle goes from its row, and its value with it; its opening stays behind until it is dropped.
use Rattle.std.proofs.Common.{◌∙◌, sym}
use Rattle.slab.specs.Slab.{get, slab_len}
use Rattle.ob_handles.proofs.Inside.{nothing_found, something_found, nothing_taken, something_taken, taken_inside, one_fewer}
use Rattle.ob_handles.proofs.slab_table.SlabTableHandleTable.take.Goals as goal

pub returns-in_err-key-clause-there : goal.returns-in_err-key-clause-there
returns-in_err-key-clause-there c =
    c.from_residual.ensures
    ∙ nothing_found (get c.self.inside.rows) c.self.inside.foreign.entries c.self.inside.opened.items (slab_len c.self.inside.rows) c.self.invariant c.args.self.now c.self.view_is c.value.inside.0 c.args.value c.value.view_is
    (sym c.in_err-key.ensures)

pub returns-in_err-key-clause-others : goal.returns-in_err-key-clause-others
returns-in_err-key-clause-others c =
    nothing_taken (get c.self.inside.rows) c.self.inside.foreign.entries c.self.inside.opened.items (slab_len c.self.inside.rows) c.self.invariant c.args.self.now c.self.view_is c.value.inside.0 c.args.value c.value.view_is
    (sym c.in_err-key.ensures)

pub invariant_of-self : goal.invariant_of-self
invariant_of-self c =
    let row = c.try_remove-held.ensures.updates in
    taken_inside (get c.self.inside.rows) c.self.inside.foreign.entries c.self.inside.opened.items (slab_len c.self.inside.rows) c.self.invariant c.args.self.now c.self.view_is c.value.inside.0 c.args.value c.value.view_is
    c.in_ok-key.key (sym c.in_ok-key.ensures) (get c.try_remove-held.new.self) (row.changed, row.others) c.drop_stale.new.opened.items c.drop_stale.ensures.stale
    c.forget.new.foreign.entries c.forget.ensures c.drop_stale.ensures.first c.drop_stale.ensures.newest
    c.len.result (slab_len c.try_remove-held.new.self) c.len.ensures c.drop_stale.ensures.few
    (one_fewer (get c.self.inside.rows) c.self.inside.foreign.entries c.self.inside.opened.items (slab_len c.self.inside.rows) c.self.invariant c.args.self.now c.self.view_is c.value.inside.0 c.args.value c.value.view_is c.in_ok-key.key (sym c.in_ok-key.ensures) c.try_remove-held.result c.try_remove-held.ensures.value c.try_remove-held.ensures.len)

pub returns-clause-there : goal.returns-clause-there
returns-clause-there c =
    something_found (get c.self.inside.rows) c.self.inside.foreign.entries c.self.inside.opened.items (slab_len c.self.inside.rows) c.self.invariant c.args.self.now c.self.view_is c.value.inside.0 c.args.value c.value.view_is
    c.in_ok-key.key c.try_remove-held.result (sym c.in_ok-key.ensures) c.try_remove-held.ensures.value

pub returns-clause-others : goal.returns-clause-others
returns-clause-others c =
    let row = c.try_remove-held.ensures.updates in
    something_taken (get c.self.inside.rows) c.self.inside.foreign.entries c.self.inside.opened.items (slab_len c.self.inside.rows) c.self.invariant c.args.self.now c.self.view_is c.value.inside.0 c.args.value c.value.view_is
    c.in_ok-key.key (sym c.in_ok-key.ensures) (get c.try_remove-held.new.self) (row.changed, row.others) c.drop_stale.new.opened.items c.drop_stale.ensures.stale
