-- A value that leads to no row is no value of the table.
use Rattle.std.proofs.Common.{◌∙◌, sym}
use Rattle.slab.specs.Slab.{get, slab_len}
use Rattle.ob_handles.proofs.Inside.{none_of, unused_now, value_of_row}
use Rattle.ob_handles.proofs.slab_table.SlabTableHandleTable.unused.Goals as goal

pub returns-clause-unused : goal.returns-clause-unused
returns-clause-unused c =
    unused_now (get c.self.inside.rows) c.self.inside.foreign.entries c.self.inside.opened.items (slab_len c.self.inside.rows) c.self.invariant c.args.self.now c.self.view_is c.in-Some.value
    (value_of_row c.vacant_key.result c.in-Some.value c.in-Some.ensures) (sym c.key_of.ensures ∙ none_of c.key_of.result c.is_none.result c.is_none.ensures c.if-is_none.true)

pub returns-2-clause-unused : goal.returns-2-clause-unused
returns-2-clause-unused c =
    unused_now (get c.self.inside.rows) c.self.inside.foreign.entries c.self.inside.opened.items (slab_len c.self.inside.rows) c.self.invariant c.args.self.now c.self.view_is c.next_unused-value.result
    c.next_unused-value.ensures.value c.next_unused-value.ensures.next.unused
