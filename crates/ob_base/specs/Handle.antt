-- Handle values: under which value a process's table would hold the handle that a caller names.
-- Source: Windows Internals on handles: their values are multiples of four, 0 is no handle, and the
-- two low bits are the caller's own and are ignored.
use Rattle.std.specs.Prelude.{ℕ, Option, Some, None, ◌-◌, ◌%◌, ◌==◌, if◌then◌else◌}

-- the value with its two low bits cleared
abbrev pub without_low_bits : ℕ → ℕ
without_low_bits value = value - value % 4

-- the value that a table would hold for it, and none where that is 0
abbrev pub key_of : ℕ → Option ℕ
key_of value = if without_low_bits value == 0 then None else Some (without_low_bits value)
