use Rattle.std.proofs.Common.{length}
use Rattle.ob_lines.proofs.Scripted.{IsReadTo}
use Rattle.ob_lines.proofs.script.every_script_has_a_reading.Given as goal

abbrev pub invariant-loop-form : goal.invariant-loop-form
invariant-loop-form l = IsReadTo l.script l.rest

abbrev pub decreases-loop-form : goal.decreases-loop-form
decreases-loop-form l = length l.rest
