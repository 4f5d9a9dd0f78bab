use Rattle.std.proofs.Common.{◌≡◌, take, string_bytes}
use Rattle.ob_entries.specs.Lines.{escaped}
use Rattle.ob_entries.proofs.texts.escape.Given as goal

abbrev pub invariant-loop-byte : goal.invariant-loop-byte
invariant-loop-byte l = string_bytes l.text ≡ escaped (take l.byte-index l.bytes)
