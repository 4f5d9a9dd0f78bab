-- A journal that is cut into segments: those that are sealed, and the open one after them.
--
-- Source: this profile.
use Rattle.std.specs.Prelude.{◌≡◌, ℕ, ◌≤◌, ◌<◌, ◌+◌, ◌^◌, List, [], ◌∷◌, ◌++◌, length, take, drop}
use Rattle.ob_model.specs.Run.{Entry}
use Rattle.ob_entries.specs.Segments.{Segment, joined, open_after, most_sealed, AreSealed}

-- the sealed segments, and the entries of the open one
pub record Journal (K : Type 0) : Type 0 where
  pub sealed : List (Segment K)
  pub unsealed : List (Entry K)

-- all entries: those of the sealed segments and of the open one joined in order
abbrev pub whole : {K : Type 0} → Journal K → List (Entry K)
whole j = joined j.sealed ++ j.unsealed

-- the open segment
abbrev pub open_segment : {K : Type 0} → Journal K → Segment K
open_segment j = open_after j.sealed j.unsealed

-- a journal with one entry more, at the end of the open segment
abbrev pub with_entry : {K : Type 0} → Journal K → Entry K → Journal K
with_entry j e = record { sealed = j.sealed; unsealed = j.unsealed ++ e ∷ [] }

-- a journal whose open segment was sealed: an empty one is open
abbrev pub with_seal : {K : Type 0} → Journal K → Journal K
with_seal j = record { sealed = j.sealed ++ open_segment j ∷ []; unsealed = [] }

-- a journal, and for how many entries its open segment has memory
pub record Placed (K : Type 0) : Type 0 where
  pub journal : Journal K
  pub places : ℕ

-- what contracts see of a journal with these segments, of which so many count as sealed, and these entries after all of them
abbrev pub seen : {K : Type 0} → List (Segment K) → (shown : ℕ) → List (Entry K) → (places : ℕ) → Placed K
seen ss shown tail places =
    record {
      journal = record { sealed = take shown ss; unsealed = joined (drop shown ss) ++ tail };
      places = places;
    }

-- what is true of the fields of a journal: its segments, how many count as sealed, how many entries all have and those that don't count, the entries after them
pub record IsKept {K : Type 0} (ss : List (Segment K)) (shown before apart : ℕ) (tail : List (Entry K)) (places capacity : ℕ) : Type 0 where
  pub order : AreSealed 1 1 ss
  pub few : length ss ≤ most_sealed
  pub within : shown ≤ length ss
  pub counted : before ≡ length (joined ss)
  pub unshown : apart ≡ length (joined (drop shown ss))
  pub fits : apart + length tail ≤ places
  pub room : places ≤ apart + capacity
  pub sized : places < 2 ^ 64
