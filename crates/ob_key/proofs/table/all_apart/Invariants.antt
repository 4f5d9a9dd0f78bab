use Rattle.std.proofs.Common.{◌≡◌, length}
use Rattle.ob_key.specs.Entries as entries
use Rattle.ob_key.proofs.table.all_apart.Given as goal

-- the entries are apart exactly where those that are left are
abbrev pub invariant-loop-entry : goal.invariant-loop-entry
invariant-loop-entry l = entries.all_apart l.left ≡ entries.all_apart l.all

abbrev pub decreases-loop-entry : goal.decreases-loop-entry
decreases-loop-entry l = length l.left
