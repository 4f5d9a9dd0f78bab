use Rattle.std.proofs.Common.{◌≡◌, ◌≤◌, ◌+◌, ◌*◌, ◌++◌, take, length}
use Rattle.std.specs.Vec.{vec_len, vec_capacity}
use Rattle.ob_output.specs.Printed.{printed_bytes}
use Rattle.ob_output.proofs.texts.push_printed_bytes.Given as goal

-- each byte so far is printed, as three at most, and there is room for the others
abbrev pub invariant-loop-byte : goal.invariant-loop-byte
invariant-loop-byte l =
    (l.block.items ≡ l.initial.block.items ++ printed_bytes (take l.byte-index l.text))
    × (vec_len l.block ≤ vec_len l.initial.block + 3 * l.byte-index)
    × (vec_len l.initial.block + 3 * length l.text ≤ vec_capacity l.block)
    × (vec_capacity l.initial.block ≤ vec_capacity l.block)
