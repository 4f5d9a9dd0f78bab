-- What the maps keep is what holds of every table.
use Rattle.std.proofs.Common.{subst}
use Rattle.ob_handles.specs.Table.{IsTable}
use Rattle.ob_handles.proofs.Tables.{is_table}
use Rattle.ob_handles.proofs.open_table.OpenTableHandleTable.len.Goals as goal

pub returns-clause-table : goal.returns-clause-table
returns-clause-table c = subst IsTable c.self.view_is (is_table c.self.inside.by_order.entries c.self.inside.by_value.entries c.self.invariant)
