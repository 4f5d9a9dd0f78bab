-- The bytes so far stand before what the rest stands for.
use Rattle.std.proofs.Common.{◌≡◌, ◌++◌, length, option_map}
use Rattle.ob_reader.specs.Reading.{unescaped}
use Rattle.ob_reader.proofs.texts.unescape.Given as goal

abbrev pub invariant-loop-byte : goal.invariant-loop-byte
invariant-loop-byte l = unescaped l.text ≡ option_map (λ others. l.bytes.items ++ others) (unescaped l.rest)

abbrev pub decreases-loop-byte : goal.decreases-loop-byte
decreases-loop-byte l = length l.rest
