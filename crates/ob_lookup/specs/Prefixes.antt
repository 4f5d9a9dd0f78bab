-- Prefixes of the texts that are walked, and caches by which a lookup may be made.
--
-- Source: this profile.
use Rattle.std.specs.Prelude.{ℕ, Bool, true, false, List, [], IsSome, Contains}
use Rattle.ob_model.specs.State.{State}
use Rattle.ob_devmap.specs.declared.view.View.{View}
use Rattle.ob_objects.specs.Store.{Entries, Shows, directory_at}
use Rattle.ob_prefixes.specs.declared.prefix.Prefix.{Prefix}
use Rattle.ob_prefixes.specs.Prefix.{IsPrefixOf}
use Rattle.ob_prefixes.specs.Cache.{Kept, kept, HasPaths}
use Rattle.ob_lookup.specs.declared.start.Standpoint.{Standpoint}
use Rattle.ob_lookup.specs.declared.start.Standpoint.TheVariants as place
use Rattle.ob_lookup.specs.Walk.{directory_of}

-- the place is the view
abbrev pub is_view : Standpoint → Bool
is_view (place.InDirectory id) = false
is_view place.InView = true

-- the prefix with these bytes after its first separator, from a place of this view
abbrev pub IsPrefixAt : View → Standpoint → Bool → List ℕ → Prefix → Type 0
IsPrefixAt view at folds text prefix = IsPrefixOf (directory_of view at) (is_view at) folds text prefix

-- Each prefix leads to its directory in each state that shows the store, where its directory is one.
pub record ArePaths (K T F I : Type 0) (store : Entries F I) (cache : Kept) : Type 0 where
  pub there : (e : Prefix × ℕ) → Contains cache.entries e → IsSome (directory_at store e.1)
  pub paths : (s : State K T F I) → Shows s store → HasPaths s cache

-- it is enough that it does so in one state that shows the store
abbrev pub PathsAreShown : (K T F I : Type 0) → Type 0
PathsAreShown K T F I = (s : State K T F I) (store : Entries F I) (cache : Kept) → Shows s store → HasPaths s cache → ArePaths K T F I store cache

-- a cache with no entry has them in every state
abbrev pub NoneArePaths : (K T F I : Type 0) → Type 0
NoneArePaths K T F I = (store : Entries F I) (room hits : ℕ) → ArePaths K T F I store (kept room [] hits)
