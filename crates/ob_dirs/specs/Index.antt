-- The stamps of a directory's entries by hashes of their names, and what the index of a directory holds.
--
-- Source: this profile.
use Rattle.std.specs.Prelude.{◌≡◌, ℕ, ◌==◌, Bool, if◌then◌else◌, List, [], ◌∷◌, Option, None, Some, nat_eq, filter, map}
use Rattle.std.specs.BTreeMap.{get as several_at}
use Rattle.std.specs.List.{find}
use Rattle.std.specs.Option.{option_or}
use Rattle.std.specs.Ordering.{nat_cmp}
use Rattle.std.specs.declared.alloc.Global.{Global}
use Rattle.std.specs.declared.vec.Vec.{Vec}
use Rattle.indexmap.specs.IndexMap.{get}
use Rattle.ob_dirs.specs.declared.entry.DirEntry.{DirEntry}
use Rattle.ob_dirs.specs.declared.index.NameIndex.{NameIndex}
use Rattle.ob_dirs.specs.Dir.{IsDir, is_named}
use Rattle.ob_dirs.specs.Hashes.{name_hash}

-- the stamps under a hash: those of a list that is kept for it, or else the single one
abbrev pub stamps_among : Option (Vec ℕ Global) → Option ℕ → List ℕ
stamps_among (Some several) single = several.items
stamps_among None (Some stamp) = stamp ∷ []
stamps_among None None = []

-- a stamp, if it is another than this one
abbrev pub without_stamp : ℕ → Option ℕ → Option ℕ
without_stamp stamp None = None
without_stamp stamp (Some s) = if s == stamp then None else Some s

-- the stamps under a hash
abbrev pub stamps_under : NameIndex → ℕ → List ℕ
stamps_under index hash = stamps_among (several_at nat_cmp index.several hash) (get nat_eq index.single hash)

-- of these entries, the stamps of those whose names have the hash
abbrev pub stamps_hashed : List DirEntry → ℕ → List ℕ
stamps_hashed entries hash = map (λ e. e.stamp) (filter (λ e. name_hash e.name == hash) entries)

-- under each hash are the stamps of the entries whose names have it
abbrev pub IsIndexOf : NameIndex → List DirEntry → Type 0
IsIndexOf index entries = (hash : ℕ) → stamps_under index hash ≡ stamps_hashed entries hash

-- the entry of a stamp among these
abbrev pub entry_at : List DirEntry → ℕ → Option DirEntry
entry_at entries stamp = find (λ e. e.stamp == stamp) entries

-- what a directory holds: entries that may be in one, and the index of them
pub record IsHeld (entries : List DirEntry) (names : NameIndex) : Type 0 where
  pub dir : IsDir entries
  pub index : IsIndexOf names entries

-- an entry, where there is one and its name is equal to the component
abbrev pub entry_named : List ℕ → Bool → Option DirEntry → Option DirEntry
entry_named component fold None = None
entry_named component fold (Some e) = if is_named component fold e then Some e else None

-- of the entries that have these stamps, the first whose name is equal to the component
abbrev pub first_named : (ℕ → Option DirEntry) → List ℕ → Bool → List ℕ → Option DirEntry
first_named entry_at component fold [] = None
first_named entry_at component fold (stamp ∷ stamps) =
    option_or (entry_named component fold (entry_at stamp)) (first_named entry_at component fold stamps)
