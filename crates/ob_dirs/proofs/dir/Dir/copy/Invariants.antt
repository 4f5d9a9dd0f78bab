-- The entries that were copied, and those that are left, are the directory's.
use Rattle.std.proofs.Common.{◌≡◌, ◌++◌}
use Rattle.ob_dirs.specs.Dir.{IsDir}
use Rattle.ob_dirs.proofs.dir.Dir.copy.Given as goal

abbrev pub invariant-loop-entry : goal.invariant-loop-entry
invariant-loop-entry l = (l.copy ++ l.entry-iterator ≡ l.fn.self) × IsDir l.fn.self
