-- How input is read: what a reader has given when the reading ends, or stops at a fault.
-- Source: this profile.
use Rattle.std.specs.Prelude.{◌≡◌, ◌+◌, ◌-◌, ◌≤◌, ℕ, List, ◌++◌, length, Option}
use Rattle.std.specs.Io.KnownBytes.{Consumes, IsAtEnd}
use Rattle.ob_output.specs.declared.fault.ShellFault.{ShellFault}
use Rattle.ob_output.specs.declared.fault.ShellFault.TheVariants.{Read, Write, TooLong, Memory, Mismatch}
use Rattle.ob_output.specs.declared.reading.TheConstants.{SCRIPT_LIMIT}

-- of what the reader has left, `taken` is read, and nothing is left after it
pub record ReadsWhole (old new : Option (List ℕ)) (taken : List ℕ) : Type 0 where
  pub taken_all : Consumes old new taken
  pub ended : IsAtEnd new

-- the next bytes of the reader were added to the text, `count` of them, none only at the end
pub record ReadsMore (old new : Option (List ℕ)) (text text' : List ℕ) (count : ℕ) : Type 0 where
  pub more : List ℕ
  pub added : text' ≡ text ++ more
  pub counted : length more ≡ count
  pub taken : Consumes old new more
  pub ended : count ≡ 0 → IsAtEnd new

-- the reader gave no more than so many bytes
pub record TakesAtMost (old new : Option (List ℕ)) (limit : ℕ) : Type 0 where
  pub front : List ℕ
  pub taken : Consumes old new front
  pub bounded : length front ≤ limit

-- the reader gave exactly so many bytes
pub record TakesExactly (old new : Option (List ℕ)) (count : ℕ) : Type 0 where
  pub front : List ℕ
  pub taken : Consumes old new front
  pub counted : length front ≡ count

-- what a reader has given when a fault ends a reading of up to so many bytes: one byte more than those;
-- or, where a read failed or memory was wanting, no more than those. No other fault comes
abbrev pub StopsReadingAt : ℕ → ShellFault → Option (List ℕ) → Option (List ℕ) → Type 0
StopsReadingAt limit TooLong old new = TakesExactly old new (limit + 1)
StopsReadingAt limit (Read unread) old new = TakesAtMost old new limit
StopsReadingAt limit Memory old new = TakesAtMost old new limit
StopsReadingAt limit (Write unwritten) old new = ⊥
StopsReadingAt limit Mismatch old new = ⊥

-- the same, of the reading of a script
abbrev pub StopsReading : ShellFault → Option (List ℕ) → Option (List ℕ) → Type 0
StopsReading fault old new = StopsReadingAt SCRIPT_LIMIT fault old new

-- the same as the first, for a reading that continues after the bytes that it has already
abbrev pub StopsReadingAfter : (limit had : ℕ) → ShellFault → Option (List ℕ) → Option (List ℕ) → Type 0
StopsReadingAfter limit had TooLong old new = TakesExactly old new (limit + 1 - had)
StopsReadingAfter limit had (Read unread) old new = TakesAtMost old new (limit - had)
StopsReadingAfter limit had Memory old new = TakesAtMost old new (limit - had)
StopsReadingAfter limit had (Write unwritten) old new = ⊥
StopsReadingAfter limit had Mismatch old new = ⊥

-- how the reading of what is above the limit ends: it is reported as too long, unless a read failed or memory
-- ran out before
abbrev pub StopsLong : ShellFault → Type 0
StopsLong TooLong = Unit {0}
StopsLong (Read unread) = Unit {0}
StopsLong Memory = Unit {0}
StopsLong (Write unwritten) = ⊥
StopsLong Mismatch = ⊥
