-- How a session takes a line of a reader.
--
-- Source: this profile.
use Rattle.std.specs.Prelude.{◌≡◌, ℕ, Bool, true, false, List, [], ◌∷◌, Option, Some, IfSome, ⊤}
use Rattle.ob_lines.specs.Lines.{lines_of}
use Rattle.ob_output.specs.declared.fault.ShellFault.{ShellFault}
use Rattle.ob_output.specs.declared.fault.ShellFault.TheVariants.{Read, Write, TooLong, Memory, Mismatch}

-- The reader had a line, which was taken: of its bytes, where they are known, this is the first line, and those after it are left. Or it had none.
abbrev pub TakesLine : (there : Bool) → Option (List ℕ) → Option (List ℕ) → List ℕ → Type 0
TakesLine true old new line = IfSome old (λ bytes. (rest : List ℕ) × (new ≡ Some rest) × (lines_of bytes ≡ line ∷ lines_of rest))
TakesLine false old new line = IfSome old (λ bytes. bytes ≡ [])

-- the faults of a reading
abbrev pub IsUnread : ShellFault → Type 0
IsUnread (Read unread) = ⊤
IsUnread Memory = ⊤
IsUnread (Write unwritten) = ⊥
IsUnread TooLong = ⊥
IsUnread Mismatch = ⊥
