-- Closed stores: what a lookup rests on, which is what the objects and the rows of a sound state give.
--
-- Source: this profile.
use Rattle.std.specs.Prelude.{◌≡◌, ℕ, ◌<◌, [], All, IsSome, Option, None, MatchOption}
use Rattle.ob_model.specs.State.{State, root_id, global_id}
use Rattle.ob_model.specs.Sound.{IsSound}
use Rattle.ob_devmap.specs.declared.view.View.{View}
use Rattle.ob_devmap.specs.View.{IsViewOf}
use Rattle.ob_dirs.specs.declared.entry.DirEntry.{DirEntry}
use Rattle.ob_objects.specs.declared.object.StoredObject.{StoredObject}
use Rattle.ob_objects.specs.Store.{Entries, IsStore, Shows, stored_at, directory_at, entries_in, rows_of}
use Rattle.ob_objects.specs.Changes.{with_entry, with_name}

module _ {F I : Type 0} where
  -- The root is a directory, and each row names an object that is there.
  pub record IsClosed (store : Entries F I) : Type 0 where
    pub root : IsSome (directory_at store root_id)
    pub rows : All (λ r. IsSome (stored_at store r.object)) (rows_of store)

  -- the object of a root handle is there, where one is given
  abbrev pub IsRootThere : Entries F I → Option ℕ → Type 0
  IsRootThere store root = MatchOption root (Unit {0}) (λ id. IsSome (stored_at store id))

  -- The directories of a view are directories of the store, and the global one is `\GLOBAL??`.
  pub record IsViewThere (store : Entries F I) (view : View) : Type 0 where
    pub local : MatchOption view.local (Unit {0}) (λ id. IsSome (directory_at store id))
    pub global : IsSome (directory_at store view.global)
    pub is_global : view.global ≡ global_id

-- the store that a sound state shows is closed
abbrev pub SoundIsClosed : (K T F I : Type 0) → Type 0
SoundIsClosed K T F I = (s : State K T F I) (store : Entries F I) → Shows s store → IsSound s → IsClosed store

-- and the directories of each process's view are there
abbrev pub SoundHasViews : (K T F I : Type 0) → Type 0
SoundHasViews K T F I =
    (s : State K T F I) (store : Entries F I) (p : ℕ) (view : View) → Shows s store → IsSound s → IsViewOf s p view → IsViewThere store view

module _ (F I : Type 0) where
  -- a closed store stays so with a further object, under a free id and with no entry in it
  abbrev pub ClosedWithObject : Type 0
  ClosedWithObject =
      (store : Entries F I) (id : ℕ) (x : StoredObject F I) → IsClosed store → stored_at store id ≡ None → entries_in x.body ≡ []
      → IsClosed (with_entry store id x)

  -- and with a further name, in a directory and of the greatest stamp, for an object that is there
  abbrev pub ClosedWithName : Type 0
  ClosedWithName =
      (store : Entries F I) (directory : ℕ) (entry : DirEntry) → IsStore store → IsClosed store
      → IsSome (directory_at store directory) → All (λ r. r.stamp < entry.stamp) (rows_of store)
      → IsSome (stored_at store entry.object) → IsClosed (with_name store directory entry)
