-- Arguments of objects whose types parse: which can be read, and their pieces; and the paths that names lead to.
--
-- Source: this profile.
use Rattle.std.specs.Prelude.{◌≡◌, ◌≢◌, ℕ, ◌<◌, ◌≤◌, Bool, ◌&&◌, ◌==◌, if◌then◌else◌, nat_eq, nat_le, List, [], ◌∷◌, drop, length, slice_index}
use Rattle.std.specs.List.{list_any, slice_split}
use Rattle.std.specs.Cmp.Lexicographic.{pointwise}
use Rattle.ob_model.specs.Names.{begins_with_separator, is_profile_text}

-- the most bytes of arguments
abbrev pub longest_arguments : ℕ
longest_arguments = 65535

-- arguments can be read: they are at most 65,535 bytes, each from 0x20 to 0x7E
abbrev pub is_readable : List ℕ → Bool
is_readable args = nat_le (length args) longest_arguments && is_profile_text args

-- the byte that separates pieces, `;`
abbrev pub semicolon : ℕ
semicolon = 59

-- the pieces of arguments: what is between the semicolons; empty arguments have none
abbrev pub pieces : List ℕ → List (List ℕ)
pieces [] = []
pieces (b ∷ bs) = slice_split (λ byte. byte == semicolon) (b ∷ bs)

-- two paths are the same, byte by byte
abbrev pub same_path : List ℕ → List ℕ → Bool
same_path a b = pointwise nat_eq a b

-- the rest of a name without one leading backslash
abbrev pub without_separator : List ℕ → List ℕ
without_separator rest = if begins_with_separator rest then drop 1 rest else rest

-- a text has the byte
abbrev pub has_byte : ℕ → List ℕ → Bool
has_byte byte text = list_any (λ b. b == byte) text

-- the text's first byte of that value is at the place, or the place is its length where it has none
pub record IsFirst (byte : ℕ) (text : List ℕ) (place : ℕ) : Type 0 where
  pub inside : place ≤ length text
  pub before : (k : ℕ) → k < place → slice_index text k ≢ byte
  pub here : place < length text → slice_index text place ≡ byte
