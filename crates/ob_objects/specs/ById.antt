-- Entries under ids, in any order, seen by rising ids.
--
-- Source: this profile.
use Rattle.std.specs.Prelude.{ℕ, List, [], ◌∷◌, Option}
use Rattle.std.specs.BTreeMap.{insert_entry}
use Rattle.std.specs.Option.{option_map_or}
use Rattle.std.specs.Ordering.{nat_cmp}

-- the entries by rising ids; of two under one id the first
abbrev pub by_id : {X : Type 0} → List (ℕ × X) → List (ℕ × X)
by_id [] = []
by_id (e ∷ es) = insert_entry nat_cmp (by_id es) e.0 e.1

-- a part of each entry, of those that have it
abbrev pub parts : {X Y : Type 0} → (X → Option Y) → List (ℕ × X) → List (ℕ × Y)
parts part [] = []
parts part (e ∷ es) = option_map_or (λ y. (e.0, y) ∷ parts part es) (part e.1) (parts part es)
