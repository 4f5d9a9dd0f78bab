-- There are as many rows with a handle as handles, and what the parts keep is what holds of every table.
use Rattle.std.proofs.Common.{◌∙◌}
use Rattle.slab.specs.Slab.{get, slab_len}
use Rattle.ob_handles.proofs.Inside.{as_many_now, table_now}
use Rattle.ob_handles.proofs.slab_table.SlabTableHandleTable.len.Goals as goal

pub returns-clause-count : goal.returns-clause-count
returns-clause-count c =
    c.len.ensures ∙ as_many_now (get c.self.inside.rows) c.self.inside.foreign.entries c.self.inside.opened.items (slab_len c.self.inside.rows) c.self.invariant c.args.self.now c.self.view_is

pub returns-clause-table : goal.returns-clause-table
returns-clause-table c = table_now (get c.self.inside.rows) c.self.inside.foreign.entries c.self.inside.opened.items (slab_len c.self.inside.rows) c.self.invariant c.args.self.now c.self.view_is
