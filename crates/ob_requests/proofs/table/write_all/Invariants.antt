-- The slots so far are written, and no slot comes or goes.
use Rattle.std.proofs.Common.{◌≡◌}
use Rattle.indexmap.specs.IndexMap.{index_map_len}
use Rattle.ob_requests.proofs.Rows.{IsWritten}
use Rattle.ob_requests.proofs.Tables.{IsSwept}
use Rattle.ob_requests.proofs.table.write_all.Given as goal

abbrev pub invariant-loop-slot : goal.invariant-loop-slot
invariant-loop-slot l = IsSwept (IsWritten l.write) l.slot l.initial.table.entries l.table.entries × (index_map_len l.table ≡ l.slot-end)
