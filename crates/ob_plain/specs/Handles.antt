-- The number of handles that are open to an object, as sets of types count them.
--
-- Source: this profile.
use Rattle.std.specs.Prelude.{◌≡◌, ℕ, ◌+◌, ◌^◌, ◌-◌, min}

-- no handle is open
abbrev pub IsIdle : ℕ → Type 0
IsIdle handles = handles ≡ 0

-- the number for an object that was not opened yet
abbrev pub unopened : ℕ
unopened = 0

-- one handle more, stopping at the greatest u32
abbrev pub one_more : ℕ → ℕ
one_more handles = min (handles + 1) (2 ^ 32 - 1)
