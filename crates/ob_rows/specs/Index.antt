-- The stamps of rows by hashes of their directories and names, and what a table of rows holds.
--
-- Source: this profile.
use Rattle.std.specs.Prelude.{◌≡◌, ℕ, ◌≤◌, ◌==◌, Bool, if◌then◌else◌, List, [], ◌∷◌, Option, None, Some, nat_eq, All, filter, map}
use Rattle.std.specs.List.{find}
use Rattle.std.specs.Option.{option_or}
use Rattle.std.specs.declared.alloc.Global.{Global}
use Rattle.std.specs.declared.vec.Vec.{Vec}
use Rattle.indexmap.specs.IndexMap.{get}
use Rattle.ob_model.specs.declared.state.Row.{Row}
use Rattle.ob_model.specs.Paths.{is_match}
use Rattle.ob_rows.specs.declared.index.NameIndex.{NameIndex}
use Rattle.ob_rows.specs.Hashes.{row_hash}
use Rattle.ob_rows.specs.Rows.{AreByStamp}

-- the stamps under a hash: those of a list that is kept for it, or else the single one
abbrev pub stamps_among : Option (Vec ℕ Global) → Option ℕ → List ℕ
stamps_among (Some several) single = several.items
stamps_among None (Some stamp) = stamp ∷ []
stamps_among None None = []

-- a stamp, if it is another than this one
abbrev pub without_stamp : ℕ → Option ℕ → Option ℕ
without_stamp stamp None = None
without_stamp stamp (Some s) = if s == stamp then None else Some s

-- the stamps under a hash
abbrev pub stamps_under : NameIndex → ℕ → List ℕ
stamps_under index hash = stamps_among (get nat_eq index.several hash) (get nat_eq index.single hash)

-- the row's directory and name have the hash
abbrev pub is_hashed : ℕ → Row → Bool
is_hashed hash r = row_hash r.directory r.name == hash

-- of these rows, the stamps of those whose directories and names have the hash
abbrev pub stamps_hashed : List Row → ℕ → List ℕ
stamps_hashed rows hash = map (λ r. r.stamp) (filter (is_hashed hash) rows)

-- under each hash are the stamps of the rows that have it
abbrev pub IsIndexOf : NameIndex → List Row → Type 0
IsIndexOf index rows = (hash : ℕ) → stamps_under index hash ≡ stamps_hashed rows hash

-- the row of a stamp among these
abbrev pub row_at : List Row → ℕ → Option Row
row_at rows stamp = find (λ r. r.stamp == stamp) rows

-- no row's stamp is above that of the row that was added last; where none was, there is no row
abbrev pub AreUpTo : Option ℕ → List Row → Type 0
AreUpTo None rows = rows ≡ []
AreUpTo (Some newest) rows = All (λ r. r.stamp ≤ newest) rows

-- what a table holds: rows by rising stamps, the index of them, and the greatest stamp that was added
pub record IsTable (rows : List Row) (names : NameIndex) (newest : Option ℕ) : Type 0 where
  pub rising : AreByStamp rows
  pub index : IsIndexOf names rows
  pub up_to : AreUpTo newest rows

-- a row, where there is one and the component finds it in the directory
abbrev pub row_named : ℕ → List ℕ → Bool → Option Row → Option Row
row_named directory component fold None = None
row_named directory component fold (Some r) = if is_match directory component fold r then Some r else None

-- of the rows that have these stamps, the first that the component finds in the directory
abbrev pub first_named : (ℕ → Option Row) → ℕ → List ℕ → Bool → List ℕ → Option Row
first_named row_at directory component fold [] = None
first_named row_at directory component fold (stamp ∷ stamps) =
    option_or (row_named directory component fold (row_at stamp)) (first_named row_at directory component fold stamps)
