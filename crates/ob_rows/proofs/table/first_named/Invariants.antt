-- Of the stamps that were passed none is of a row that is found so.
use Rattle.std.proofs.Common.{◌≡◌, drop}
use Rattle.ob_rows.specs.Index.{first_named, row_at}
use Rattle.ob_rows.proofs.table.first_named.Given as goal

abbrev pub invariant-loop-stamp : goal.invariant-loop-stamp
invariant-loop-stamp l =
    first_named (row_at l.rows) l.directory l.component l.fold (drop l.stamp-index l.stamps) ≡ first_named (row_at l.rows) l.directory l.component l.fold l.stamps
