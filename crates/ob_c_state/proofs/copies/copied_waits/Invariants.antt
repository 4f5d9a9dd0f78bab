-- The parses that were copied, and those that are left, are all of them.
use Rattle.std.proofs.Common.{◌≡◌, ◌++◌}
use Rattle.ob_c_state.proofs.copies.copied_waits.Given as goal

abbrev pub invariant-loop-parse : goal.invariant-loop-parse
invariant-loop-parse l = l.copy ++ l.parse-iterator ≡ l.waits
