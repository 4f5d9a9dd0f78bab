-- A store of objects, as the list of its entries: each an id and what is stored under it. The
-- invariant of every store, and which objects and rows of the abstract state it represents.
--
-- Sources: Windows Internals, Object Manager (object headers and bodies, object directories); the ids
-- are this profile.
use Rattle.std.specs.Prelude.{◌≡◌, ◌≢◌, ℕ, ◌==◌, List, [], ◌∷◌, ◌++◌, Option, None, Some, All, map}
use Rattle.std.specs.Arc.{arc_value}
use Rattle.std.specs.List.{AllPairs, find}
use Rattle.std.specs.List.Sorted.{IsStrictlySortedBy}
use Rattle.std.specs.Map.{keys_of}
use Rattle.std.specs.Option.{option_map, option_and_then, unwrap_or}
use Rattle.std.specs.Ordering.{nat_cmp}
use Rattle.ob_model.specs.declared.state.Body.{Body}
use Rattle.ob_model.specs.declared.state.Body.TheVariants as model
use Rattle.ob_model.specs.declared.state.Object.{Object}
use Rattle.ob_model.specs.declared.state.Row.{Row}
use Rattle.ob_model.specs.State.{State}
use Rattle.ob_dirs.specs.declared.entry.DirEntry.{DirEntry}
use Rattle.ob_dirs.specs.Dir.{IsDir, row_of}
use Rattle.ob_objects.specs.declared.named.EntryPlace.{EntryPlace}
use Rattle.ob_objects.specs.declared.object.StoredBody.{StoredBody}
use Rattle.ob_objects.specs.declared.object.StoredBody.TheVariants.{Directory, Link, Other}
use Rattle.ob_objects.specs.declared.object.StoredObject.{StoredObject}
use Rattle.ob_objects.specs.Rows.{by_stamp}
use Rattle.ob_objects.specs.Named.{place_of}

-- an entry of a directory: its stamp, its name and the object that it names
abbrev pub NameEntry : Type 0
NameEntry = DirEntry

-- the entries of a store
abbrev pub Entries : Type 0 → Type 0 → Type 0
Entries F I = List (ℕ × StoredObject F I)

module _ {F I : Type 0} where
  -- what is stored under an id
  abbrev pub stored_at : Entries F I → ℕ → Option (StoredObject F I)
  stored_at store id = option_map (λ e. e.1) (find (λ e. e.0 == id) store)

  -- the entries of a directory, and none where the body is no directory's
  abbrev pub directory_of : StoredBody F I → Option (List NameEntry)
  directory_of (Directory entries shadow) = Some entries
  directory_of (Link target) = None
  directory_of (Other face inner) = None

  -- the entries of the directory of an id, where it is one
  abbrev pub directory_at : Entries F I → ℕ → Option (List NameEntry)
  directory_at store id = option_and_then (λ x. directory_of x.body) (stored_at store id)

  -- the entries that lie in a body, and under an id: none where that is no directory
  abbrev pub entries_in : StoredBody F I → List NameEntry
  entries_in body = unwrap_or (directory_of body) []

  abbrev pub entries_at : Entries F I → ℕ → List NameEntry
  entries_at store id = unwrap_or (directory_at store id) []

  -- ---- the objects and the rows of the abstract state

  -- what a body is in the abstract state, where a directory's entries are rows
  abbrev pub body_of_stored : StoredBody F I → Body F I
  body_of_stored (Directory entries shadow) = model.Directory shadow
  body_of_stored (Link target) = model.Link target
  body_of_stored (Other face inner) = model.Other (arc_value face) inner

  -- the object that is stored under an id
  abbrev pub object_of_stored : ℕ → StoredObject F I → Object F I
  object_of_stored id x = record { id = id; body = body_of_stored x.body; permanent = x.permanent; exclusive = x.exclusive }

  -- the objects of a store, by rising ids
  abbrev pub objects_of : Entries F I → List (Object F I)
  objects_of store = map (λ e. object_of_stored e.0 e.1) store

  -- the rows of one directory after another
  abbrev pub rows_in_turn : Entries F I → List Row
  rows_in_turn [] = []
  rows_in_turn (e ∷ store) = map (row_of e.0) (entries_in e.1.body) ++ rows_in_turn store

  -- the rows of all directories of a store, by rising stamps
  abbrev pub rows_of : Entries F I → List Row
  rows_of store = by_stamp (rows_in_turn store)

  -- where the name of an object is
  abbrev pub place_at : Entries F I → ℕ → Option EntryPlace
  place_at store id = option_map place_of (find (λ r. r.object == id) (rows_of store))

  -- This holds of every store: the ids rise strictly, the entries of each directory are a directory's,
  -- and no object has two names.
  pub record IsStore (store : Entries F I) : Type 0 where
    pub rising : IsStrictlySortedBy nat_cmp (keys_of store)
    pub directories : All (λ e. IsDir (entries_in e.1.body)) store
    pub named_once : AllPairs (λ a b. a.object ≢ b.object) (rows_of store)

  -- the objects and the rows of the state are those of the store
  pub record Shows {K T : Type 0} (s : State K T F I) (store : Entries F I) : Type 0 where
    pub objects : s.objects ≡ objects_of store
    pub rows : s.rows ≡ rows_of store
