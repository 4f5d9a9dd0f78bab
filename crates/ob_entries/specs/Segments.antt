-- The segments of a journal: it is cut into sealed ones, in order, with the open one after them.
--
-- Source: this profile.
use Rattle.std.specs.Prelude.{◌≡◌, ℕ, ◌+◌, ◌≤◌, List, [], ◌∷◌, ◌++◌, length}
use Rattle.ob_model.specs.Run.{Entry}

-- the most entries of a segment, and the most segments of a journal that are sealed
abbrev pub most_entries : ℕ
most_entries = 1048576

abbrev pub most_sealed : ℕ
most_sealed = 4095

-- a segment: its number, from 1, the number of its first entry, and its entries
pub record Segment (K : Type 0) : Type 0 where
  pub number : ℕ
  pub first : ℕ
  pub entries : List (Entry K)

-- the entries of segments joined in order
abbrev pub joined : {K : Type 0} → List (Segment K) → List (Entry K)
joined [] = []
joined (s ∷ ss) = s.entries ++ joined ss

-- the open segment after these, with its entries
abbrev pub open_after : {K : Type 0} → List (Segment K) → List (Entry K) → Segment K
open_after sealed entries = record { number = length sealed + 1; first = length (joined sealed) + 1; entries = entries }

-- segments in order, the first of which has this number, and its first entry that one: each has an entry, and at most 1,048,576
abbrev pub AreSealed : {K : Type 0} → (number first : ℕ) → List (Segment K) → Type 0
AreSealed number first [] = Unit {0}
AreSealed number first (s ∷ ss) =
    (s.number ≡ number) × (s.first ≡ first) × (1 ≤ length s.entries) × (length s.entries ≤ most_entries)
    × AreSealed (number + 1) (first + length s.entries) ss
