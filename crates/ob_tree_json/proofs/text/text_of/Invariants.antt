use Rattle.std.proofs.Common.{◌≡◌, take, string_bytes}
use Rattle.ob_tree_json.specs.Json.{characters}
use Rattle.ob_tree_json.proofs.text.text_of.Given as goal

abbrev pub invariant-loop-byte : goal.invariant-loop-byte
invariant-loop-byte l = string_bytes l.text ≡ characters (take l.byte-index l.bytes)
