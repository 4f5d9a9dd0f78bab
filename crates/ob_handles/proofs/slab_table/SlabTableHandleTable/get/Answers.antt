-- What is found by a value is what lies in the row that the value leads to.
use Rattle.std.proofs.Common.{◌∙◌, sym}
use Rattle.slab.specs.Slab.{get, slab_len}
use Rattle.ob_handles.proofs.Inside.{nothing_found, something_found}
use Rattle.ob_handles.proofs.slab_table.SlabTableHandleTable.get.Goals as goal

pub returns-in_err-key : goal.returns-in_err-key
returns-in_err-key c =
    c.from_residual.ensures
    ∙ nothing_found (get c.self.inside.rows) c.self.inside.foreign.entries c.self.inside.opened.items (slab_len c.self.inside.rows) c.self.invariant c.args.self.now c.self.view_is c.value.inside.0 c.args.value c.value.view_is
    (sym c.in_err-key.ensures)

pub returns : goal.returns
returns c =
    something_found (get c.self.inside.rows) c.self.inside.foreign.entries c.self.inside.opened.items (slab_len c.self.inside.rows) c.self.invariant c.args.self.now c.self.view_is c.value.inside.0 c.args.value c.value.view_is
    c.in_ok-key.key c.copied.result (sym c.in_ok-key.ensures) (c.copied.ensures ∙ c.get.ensures)
