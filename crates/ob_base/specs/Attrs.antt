-- Attribute flags: the flags of a request as bits of a number, and which sets of them are lawful.
-- Source: the Windows Driver Kit's "OBJECT_ATTRIBUTES structure" for the flags and their numbers;
-- which sets are lawful is this profile's.
use Rattle.std.specs.Prelude.{ℕ, Bool, ◌==◌, ◌&&◌, not}
use Rattle.std.specs.Int.RustNames.{bit_and}

-- the new handle is handed on to child processes (OBJ_INHERIT)
abbrev pub inherit_flag : ℕ
inherit_flag = 0x2

-- the new object keeps its name when its last handle is closed (OBJ_PERMANENT)
abbrev pub permanent_flag : ℕ
permanent_flag = 0x10

-- only one process may hold handles to the object (OBJ_EXCLUSIVE)
abbrev pub exclusive_flag : ℕ
exclusive_flag = 0x20

-- names are compared without regard to the case of letters (OBJ_CASE_INSENSITIVE)
abbrev pub case_insensitive_flag : ℕ
case_insensitive_flag = 0x40

-- a create opens the object that has the name already (OBJ_OPENIF)
abbrev pub open_if_flag : ℕ
open_if_flag = 0x80

-- an open takes a symbolic link itself, and not what it leads to (OBJ_OPENLINK)
abbrev pub open_link_flag : ℕ
open_link_flag = 0x100

-- the bits of all six flags
abbrev pub every_flag : ℕ
every_flag = 0x1F2

-- whether a flag is among the bits
abbrev pub has_flag : ℕ → ℕ → Bool
has_flag flag bits = bit_and bits flag == flag

-- whether the bits are flags' bits and no others
abbrev pub are_flags : ℕ → Bool
are_flags bits = bit_and bits every_flag == bits

-- whether a request may carry the bits: no others than flags', and not both INHERIT and EXCLUSIVE
abbrev pub are_lawful : ℕ → Bool
are_lawful bits = are_flags bits && not (has_flag inherit_flag bits && has_flag exclusive_flag bits)
