-- The faults: in words, and which is what. Source: this profile.
use Rattle.std.specs.Prelude.{ℕ, List, Bool, true, false, codes}
use Rattle.std.specs.declared.io.ErrorKind.{ErrorKind}
use Rattle.ob_output.specs.declared.fault.ShellFault.{ShellFault}
use Rattle.ob_output.specs.declared.fault.ShellFault.TheVariants.{Read, Write, TooLong, Memory, Mismatch}
use Rattle.ob_output.specs.declared.fault.Unread.{Unread}

-- the words that the program prints for a fault
abbrev pub fault_text_of : ShellFault → List ℕ
fault_text_of (Read unread) = codes "cannot read"
fault_text_of (Write unwritten) = codes "cannot write"
fault_text_of TooLong = codes "input too long"
fault_text_of Memory = codes "want of memory"
fault_text_of Mismatch = codes "journal mismatch"

-- why input was not read, by the kind of the error
abbrev pub unread_of : ErrorKind → Unread
unread_of kind = record { kind = kind }

-- the fault is one of a write
abbrev pub is_unwritten : ShellFault → Bool
is_unwritten (Read unread) = false
is_unwritten (Write unwritten) = true
is_unwritten TooLong = false
is_unwritten Memory = false
is_unwritten Mismatch = false
