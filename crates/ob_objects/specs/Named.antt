-- Names of objects and where they are, and the order of objects.
--
-- Source: this profile.
use Rattle.std.specs.Prelude.{◌≡◌, ℕ, ◌<◌, ◌≤◌, Bool, true, ◌&&◌, ◌==◌, List, Option, None, Some, All}
use Rattle.std.specs.List.{list_any}
use Rattle.ob_model.specs.declared.state.Object.{Object}
use Rattle.ob_model.specs.declared.state.Row.{Row}
use Rattle.ob_dirs.specs.Dir.{row_of}
use Rattle.ob_objects.specs.declared.named.Named.{Named}
use Rattle.ob_objects.specs.declared.named.EntryPlace.{EntryPlace}

-- the row that a name is
abbrev pub row_of_named : Named → Row
row_of_named named = row_of named.directory named.entry.now

-- where a row is
abbrev pub place_of : Row → EntryPlace
place_of r = record { directory = r.directory; stamp = r.stamp }

-- the row is in this directory under this stamp
abbrev pub stands_at : ℕ → ℕ → Row → Bool
stands_at directory stamp r = (r.directory == directory) && (r.stamp == stamp)

-- the object of greatest id below this one; none where no object has a lesser id
abbrev pub IsLastBefore : {F I : Type 0} → ℕ → List (Object F I) → Option ℕ → Type 0
IsLastBefore id objects None = All (λ o. id ≤ o.id) objects
IsLastBefore id objects (Some last) =
    (list_any (λ o. o.id == last) objects ≡ true) × (last < id) × All (λ o. o.id < id → o.id ≤ last) objects

-- the object of least id from this one on; none where all objects have lesser ids
abbrev pub IsFirstFrom : {F I : Type 0} → ℕ → List (Object F I) → Option ℕ → Type 0
IsFirstFrom id objects None = All (λ o. o.id < id) objects
IsFirstFrom id objects (Some first) =
    (list_any (λ o. o.id == first) objects ≡ true) × (id ≤ first) × All (λ o. id ≤ o.id → first ≤ o.id) objects
