-- The arguments of a plain object: nothing, or its limit in decimal.
use Rattle.std.specs.Prelude.{◌≤◌, ◌≡◌, ℕ, ◌+◌, ◌*◌, ◌-◌, Bool, ◌&&◌, leb, cond, List, [], ◌∷◌, Option, None, Some}
use Rattle.std.specs.Fmt.{decimal}

-- the greatest limit
abbrev pub greatest_limit : ℕ
greatest_limit = 65535

-- the byte is a digit not below this one
abbrev pub is_digit_from : ℕ → ℕ → Bool
is_digit_from least byte = leb least byte && leb byte 57

-- the number that digits make after the digits of another, where it is no greater than 65,535
abbrev pub digits_behind : ℕ → List ℕ → Option ℕ
digits_behind total [] = Some total
digits_behind total (byte ∷ rest) = cond (is_digit_from 48 byte && leb (10 * total + (byte - 48)) greatest_limit) (digits_behind (10 * total + (byte - 48)) rest) None

-- the limit that a text says: 1 to 65,535 in decimal without a leading zero
abbrev pub limit_of : List ℕ → Option ℕ
limit_of [] = None
limit_of (byte ∷ rest) = cond (is_digit_from 49 byte) (digits_behind (byte - 48) rest) None

-- arguments are refused: they are not empty and say no limit
abbrev pub refuses_arguments : List ℕ → Option ℕ
refuses_arguments [] = None
refuses_arguments (byte ∷ rest) = elim (limit_of (byte ∷ rest)) [ None ↦ Some 1 | Some _ ↦ None ]

-- the text is this limit in decimal
pub record IsLimit (text : List ℕ) (limit : ℕ) : Type 0 where
  pub is : text ≡ decimal limit
  pub low : 1 ≤ limit
  pub high : limit ≤ 65535
