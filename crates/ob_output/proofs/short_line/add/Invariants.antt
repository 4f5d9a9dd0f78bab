use Rattle.std.proofs.Common.{◌≡◌, ◌++◌, take}
use Rattle.ob_output.proofs.short_line.add.Given as goal

abbrev pub invariant-loop-byte : goal.invariant-loop-byte
invariant-loop-byte l = l.line.items ≡ l.initial.line.items ++ take l.byte-index l.text
