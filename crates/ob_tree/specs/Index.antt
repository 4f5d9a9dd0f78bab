-- The entries of all directories in one order, and the objects without a name.
--
-- Source: this profile.
use Rattle.std.specs.Prelude.{◌<◌, AllPairs, ℕ, List, [], ◌∷◌, if◌then◌else◌}
use Rattle.std.specs.Ordering.{nat_cmp, ordering_then, is_le}
use Rattle.std.specs.Cmp.Lexicographic.{slice_cmp}
use Rattle.std.specs.List.Sorted.{IsSorted}
use Rattle.std.specs.declared.cmp.Ordering.{Ordering}
use Rattle.ob_tree.specs.declared.survey.Seen.{Seen}
use Rattle.ob_tree.specs.declared.entries.Entry.{Entry}

-- objects by rising ids
abbrev pub Rise : List Seen → Type 0
Rise objects = AllPairs (λ a b. a.id < b.id) objects

-- an entry: in a directory a name for an object
pub record Named : Type 0 where
  pub directory : ℕ
  pub name : List ℕ
  pub object : ℕ

-- by directories, then by names, byte for byte
abbrev pub entry_order : Entry → Entry → Ordering
entry_order a b = ordering_then (nat_cmp a.directory b.directory) (ordering_then (slice_cmp nat_cmp a.name.now b.name.now) (nat_cmp a.object b.object))

abbrev pub AreInOrder : List Entry → Type 0
AreInOrder entries = IsSorted entry_order entries

abbrev pub named_by : Entry → Named
named_by e = record { directory = e.directory; name = e.name.now; object = e.object }

abbrev pub name_order : Named → Named → Ordering
name_order a b = ordering_then (nat_cmp a.directory b.directory) (ordering_then (slice_cmp nat_cmp a.name b.name) (nat_cmp a.object b.object))

module _ {X : Type 0} (order : X → X → Ordering) where
  -- among elements in order a further one, before the first that is not less
  abbrev pub insert_ordered : X → List X → List X
  insert_ordered x [] = x ∷ []
  insert_ordered x (y ∷ ys) = if is_le (order x y) then x ∷ y ∷ ys else y ∷ insert_ordered x ys

  -- these elements in order
  abbrev pub ordered : List X → List X
  ordered [] = []
  ordered (x ∷ xs) = insert_ordered x (ordered xs)

-- these entries in order of their directories, and in one directory in order of their names, byte for byte
abbrev pub in_order : List Named → List Named
in_order names = ordered name_order names
