use Rattle.std.proofs.Common.{◌↔◌, length}
use Rattle.ob_parts.specs.Text.{IsText}
use Rattle.ob_parts.proofs.text.is_text_with_escapes.Given as goal

abbrev pub invariant-loop-behind : goal.invariant-loop-behind
invariant-loop-behind l = IsText l.rest ↔ IsText l.bytes

abbrev pub decreases-loop-behind : goal.decreases-loop-behind
decreases-loop-behind l = length l.rest
