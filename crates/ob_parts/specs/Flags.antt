-- Flags: how a script spells attribute flags.
--
-- Source: this profile.
use Rattle.std.specs.Prelude.{◌≡◌, ℕ, ◌+◌, ◌≤◌, ◌==◌, ◌⊎◌, if◌then◌else◌, List, [], ◌∷◌, ◌++◌, length, Option, Some, None, codes}
use Rattle.std.specs.Str.Parse.{AllDigits, digits_value}
use Rattle.ob_base.specs.Attrs.{
  inherit_flag,
  permanent_flag,
  exclusive_flag,
  case_insensitive_flag,
  open_if_flag,
  open_link_flag,
}
use Rattle.ob_parts.specs.Text.{Lacks}

-- the flag of a letter: I, P, E, C, O and L
abbrev pub flag_of : ℕ → Option ℕ
flag_of letter =
    if letter == 0x49 then Some inherit_flag
    else if letter == 0x50 then Some permanent_flag
    else if letter == 0x45 then Some exclusive_flag
    else if letter == 0x43 then Some case_insensitive_flag
    else if letter == 0x4F then Some open_if_flag
    else if letter == 0x4C then Some open_link_flag
    else None

-- distinct letters of flags, in any order, and the bits of these flags
abbrev pub IsLetters : List ℕ → ℕ → Type 0
IsLetters [] bits = bits ≡ 0
IsLetters (c ∷ cs) bits =
    (flag others : ℕ) × (flag_of c ≡ Some flag) × Lacks c cs × IsLetters cs others × (bits ≡ flag + others)

-- `x` and one to eight hexadecimal digits of either case, and the number that they write
abbrev pub IsRawBits : List ℕ → ℕ → Type 0
IsRawBits flags bits =
    (digits : List ℕ) × (flags ≡ codes "x" ++ digits) × AllDigits 16 digits × (1 ≤ length digits) × (length digits ≤ 8)
    × (bits ≡ digits_value 16 digits)

-- what spells flags, and their bits: `-` for none, one or more letters, or raw bits
abbrev pub IsFlags : List ℕ → ℕ → Type 0
IsFlags flags bits =
    ((flags ≡ codes "-") × (bits ≡ 0)) ⊎ ((1 ≤ length flags) × IsLetters flags bits) ⊎ IsRawBits flags bits
