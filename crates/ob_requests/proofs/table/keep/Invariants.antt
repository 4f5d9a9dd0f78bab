-- The values of the slots so far are kept, and no slot comes or goes.
use Rattle.std.proofs.Common.{◌≡◌}
use Rattle.indexmap.specs.IndexMap.{index_map_len}
use Rattle.ob_requests.proofs.Tables.{IsSwept}
use Rattle.ob_requests.proofs.Rows.{IsRowKept}
use Rattle.ob_requests.proofs.table.keep.Given as goal

abbrev pub invariant-loop-slot : goal.invariant-loop-slot
invariant-loop-slot g l =
    IsSwept (IsRowKept (λ number passed. goal.P-post g l.fn.test number passed)) l.slot l.initial.table.entries l.table.entries × (index_map_len l.table ≡ l.slot-end)
