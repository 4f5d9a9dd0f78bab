-- A walk that continues after a part of its text.
--
-- Source: this profile.
use Rattle.std.specs.Prelude.{◌≡◌, ◌≢◌, ℕ, ◌==◌, Bool, ◌&&◌, if◌then◌else◌, List, [], ◌∷◌, ◌++◌, length, All, Option, None, Some}
use Rattle.std.specs.Str.{bytes_eq}
use Rattle.ob_model.specs.Names.{separator, IsSplit}
use Rattle.ob_model.specs.State.{State}
use Rattle.ob_model.specs.Paths.{Origin, IsPath, place_behind}
use Rattle.ob_model.specs.Paths as paths
use Rattle.ob_devmap.specs.declared.view.View.{View}
use Rattle.ob_devmap.specs.View.{IsViewOf}
use Rattle.ob_objects.specs.Store.{Entries, Shows}
use Rattle.ob_prefixes.specs.declared.prefix.Prefix.{Prefix}
use Rattle.ob_lookup.specs.declared.start.Standpoint.{Standpoint}
use Rattle.ob_lookup.specs.declared.start.Standpoint.TheVariants.{InDirectory, InView}
use Rattle.ob_lookup.specs.declared.start.Start.{Start}
use Rattle.ob_lookup.specs.Prefixes.{IsPrefixAt}
use Rattle.ob_lookup.specs.Walk.{origin_at, place_of, text_of}

module _ {K T F I : Type 0} where
  -- components of the text lead from the start to the place, and the rest follows them; the last component of
  -- a create leads there by own entries
  abbrev pub Led : State K T F I → ℕ → Start → (create fold : Bool) → Origin → List ℕ → Type 0
  Led s p start create fold place rest =
      (cs : List (List ℕ)) × IsSplit (text_of start) cs rest × IsPath s (place_of p start) cs (bytes_eq rest [] && create) fold (paths.directory_at s place)
      × (place_behind (place_of p start) cs (paths.directory_at s place) ≡ place)

-- and so they do in each state that shows the store, for each process of the view
abbrev pub Leads : (K T F I : Type 0) → Entries F I → View → Start → (create fold : Bool) → Standpoint → List ℕ → Type 0
Leads K T F I store view start create fold place rest = (s : State K T F I) (p : ℕ) → Shows s store → IsViewOf s p view → Led s p start create fold (origin_at p place) rest

-- the directory that is the place, where exactly so many bytes are left after a separator
abbrev pub reached_at : Standpoint → Option (List ℕ) → ℕ → Option ℕ
reached_at (InDirectory id) (Some behind) last = if length behind == last then Some id else None
reached_at (InDirectory id) None last = None
reached_at InView behind last = None

-- what is before the last separator of what follows the first one, and after that last one
abbrev pub IsCutAt : Option (List ℕ) → List ℕ → List ℕ → Type 0
IsCutAt behind front last = (behind ≡ Some (front ++ separator ∷ last)) × All (λ b. b ≢ separator) last

-- the prefix of the text that is walked from there, and what follows its last separator
abbrev pub IsKeyOf : View → Start → Bool → Prefix → List ℕ → Type 0
IsKeyOf view start fold prefix last =
    (front : List ℕ) × (start.behind ≡ Some (front ++ separator ∷ last)) × All (λ b. b ≢ separator) last × IsPrefixAt view start.place fold front prefix
