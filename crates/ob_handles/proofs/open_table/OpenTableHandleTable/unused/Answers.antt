-- A key that the second map lacks is no value of the table.
use Rattle.std.proofs.Common.{refl, sym}
use Rattle.ob_handles.proofs.Tables.{keys_are_values, nothing_found}
use Rattle.ob_handles.proofs.open_table.OpenTableHandleTable.unused.Goals as goal

pub unused_value-requires-clause-values : goal.unused_value-requires-clause-values
unused_value-requires-clause-values c = keys_are_values c.self.inside.by_order.entries c.self.inside.by_value.entries c.self.invariant

pub returns-clause-unused : goal.returns-clause-unused
returns-clause-unused c = (
  c.unused_value.ensures.value,
  sym (nothing_found c.self.inside.by_order.entries c.self.inside.by_value.entries c.self.invariant c.args.self.now c.self.view_is c.unused_value.result c.unused_value.result refl
      c.unused_value.ensures.unused),
)
