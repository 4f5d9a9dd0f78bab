-- One digit after another.
use Rattle.std.proofs.Common.{◌≡◌, ◌∙◌, ℕ, ◌+◌, ◌*◌, ◌-◌, Bool, true, false, ◌&&◌, leb, cond, List, [], ◌∷◌, Option, None, Some, refl, ap}
use Rattle.ob_plain.specs.Limits.{digits_behind, is_digit_from, greatest_limit}

-- what a number's digits make, where the first of them was read
abbrev pub read_on : Option ℕ → List ℕ → Option ℕ
read_on None _ = None
read_on (Some total) rest = digits_behind total rest

chosen : (b : Bool) (total : ℕ) (rest : List ℕ) → cond b (digits_behind total rest) None ≡ read_on (cond b (Some total) None) rest
chosen true total rest = refl
chosen false total rest = refl

-- the first digit is read, and then the others
pub first_digit : (total byte : ℕ) (rest : List ℕ) → digits_behind total (byte ∷ rest) ≡ read_on (digits_behind total (byte ∷ [])) rest
first_digit total byte rest = chosen (is_digit_from 48 byte && leb (10 * total + (byte - 48)) greatest_limit) (10 * total + (byte - 48)) rest

-- a digit that is read
pub digit_read : (total byte next : ℕ) (rest : List ℕ) → digits_behind total (byte ∷ []) ≡ Some next → digits_behind total (byte ∷ rest) ≡ digits_behind next rest
digit_read total byte next rest e = first_digit total byte rest ∙ ap (λ o. read_on o rest) e

-- a byte that cannot be read
pub none_read : (total byte : ℕ) (rest : List ℕ) → digits_behind total (byte ∷ []) ≡ None → digits_behind total (byte ∷ rest) ≡ None
none_read total byte rest e = first_digit total byte rest ∙ ap (λ o. read_on o rest) e
