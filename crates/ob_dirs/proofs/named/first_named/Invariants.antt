-- Of the stamps that were passed none is of an entry that is named so.
use Rattle.std.proofs.Common.{◌≡◌, drop}
use Rattle.ob_dirs.specs.Index.{entry_at, first_named}
use Rattle.ob_dirs.proofs.named.first_named.Given as goal

abbrev pub invariant-loop-stamp : goal.invariant-loop-stamp
invariant-loop-stamp l =
    first_named (entry_at l.entries) l.component l.fold (drop l.stamp-index l.stamps) ≡ first_named (entry_at l.entries) l.component l.fold l.stamps
