-- How a store and the state that shows it go together: the statements of the law functions in
-- src/laws.rt.
use Rattle.std.specs.Prelude.{◌≡◌, ◌≢◌, ℕ, ◌<◌, Bool, true, ◌&&◌, ◌==◌, not, if◌then◌else◌, List, [], ◌∷◌, ◌++◌, length, None, Some, All, filter, map, IsSome}
use Rattle.std.specs.List.{AllPairs, find}
use Rattle.std.specs.Option.{option_map, option_map_or}
use Rattle.ob_model.specs.declared.state.Object.{Object}
use Rattle.ob_model.specs.State.{State, insert_object, object_of, body_of, is_directory}
use Rattle.ob_model.specs.Paths.{found}
use Rattle.ob_model.specs.declared.terms.Reason.{Reason}
use Rattle.ob_model.specs.Procedures.{Procedures}
use Rattle.ob_model.specs.Grants.{open_refusal_of, open_refusal, opened_object, opened_body, opened_set, with_open}
use Rattle.ob_model.specs.Closing.{closed_object, closed_set}
use Rattle.ob_dirs.specs.declared.entry.DirEntry.{DirEntry}
use Rattle.ob_dirs.specs.Dir.{AreEntries, entry_found, row_of}
use Rattle.ob_objects.specs.declared.object.StoredObject.{StoredObject}
use Rattle.ob_objects.specs.Rows.{AreByStamp}
use Rattle.ob_objects.specs.Store.{Entries, IsStore, Shows, stored_at, directory_at, entries_at, entries_in, body_of_stored, object_of_stored, objects_of, rows_of}
use Rattle.ob_objects.specs.Changes.{with_entry, without_object, with_name, without_name, with_permanence, refusal_to_open, with_opened, set_after_open, with_closed, set_after_close}

module _ (K T F I : Type 0) where
  -- the object of a number is what is stored under it
  abbrev pub StoredIsTheObject : Type 0
  StoredIsTheObject =
      (s : State K T F I) (store : Entries F I) → Shows s store
      → (id : ℕ) → object_of s id ≡ option_map (object_of_stored id) (stored_at store id)

  -- what the state finds in a directory is the row of the entry that is found there
  abbrev pub StoreFindsWhatTheStateFinds : Type 0
  StoreFindsWhatTheStateFinds =
      (s : State K T F I) (store : Entries F I) → IsStore store → Shows s store
      → (directory : ℕ) (component : List ℕ) (fold : Bool)
      → found s directory component fold ≡ option_map (row_of directory) (entry_found (entries_at store directory) component fold)

  -- opening or closing an object of the store does to the state's objects what the machine does,
  -- and leaves the rows as they were
  abbrev pub OpenedIsTheMachines : Type 0
  OpenedIsTheMachines =
      (g : Procedures K T F I) (store : Entries F I) (set : T) (id : ℕ) (reason : Reason)
      → (objects_of (with_opened g store set id reason) ≡ map (opened_object g set id reason) (objects_of store))
      × (rows_of (with_opened g store set id reason) ≡ rows_of store)

  abbrev pub ClosedIsTheMachines : Type 0
  ClosedIsTheMachines =
      (g : Procedures K T F I) (store : Entries F I) (set : T) (id process_left system_left : ℕ)
      → (objects_of (with_closed g store set id process_left system_left) ≡ map (closed_object g set id process_left system_left) (objects_of store))
      × (rows_of (with_closed g store set id process_left system_left) ≡ rows_of store)

  -- the set is asked to open an object as the machine asks it, and its value then is the machine's
  abbrev pub RefusalIsTheMachines : Type 0
  RefusalIsTheMachines =
      (g : Procedures K T F I) (s : State K T F I) (store : Entries F I) → Shows s store
      → (id : ℕ) (reason : Reason) → refusal_to_open g store s.set id reason ≡ open_refusal g s id reason

  abbrev pub SetAfterOpenIsTheMachines : Type 0
  SetAfterOpenIsTheMachines =
      (g : Procedures K T F I) (s : State K T F I) (store : Entries F I) → Shows s store
      → (id : ℕ) (reason : Reason) → set_after_open g store s.set id reason ≡ (with_open g s id reason).set

  -- and so when it is asked to close one, whatever handles are left
  abbrev pub SetAfterCloseIsTheMachines : Type 0
  SetAfterCloseIsTheMachines =
      (g : Procedures K T F I) (s : State K T F I) (store : Entries F I) → Shows s store
      → (id process_left system_left : ℕ)
      → set_after_close g store s.set id process_left system_left ≡ option_map_or (closed_set g s.set process_left system_left) (body_of s id) s.set

  -- an object that came under a free id is opened as its body says: the others stay, and the set says of
  -- it what it says of the body
  abbrev pub NewObjectOpens : Type 0
  NewObjectOpens =
      (g : Procedures K T F I) (store : Entries F I) (set : T) (id : ℕ) (x : StoredObject F I) (reason : Reason)
      → stored_at store id ≡ None
      → (objects_of (with_opened g (with_entry store id x) set id reason)
      ≡ insert_object (record (object_of_stored id x) { body = opened_body g set (body_of_stored x.body) reason }) (objects_of store))
      × (refusal_to_open g (with_entry store id x) set id reason ≡ open_refusal_of g set (body_of_stored x.body) reason)
      × (set_after_open g (with_entry store id x) set id reason ≡ opened_set g set (body_of_stored x.body) reason)

  -- where the state finds nothing in a directory, a name of these bytes may be put there, with a stamp
  -- above those of all rows
  abbrev pub NameMayBeInserted : Type 0
  NameMayBeInserted =
      (s : State K T F I) (store : Entries F I) → IsStore store → Shows s store
      → (directory : ℕ) (name : List ℕ) (fold : Bool) (stamp : ℕ)
      → is_directory s directory ≡ true → found s directory name fold ≡ None → All (λ r. r.stamp < stamp) s.rows
      → IsSome (directory_at store directory)
      × All (λ e. e.name ≢ name) (entries_at store directory)
      × All (λ e. e.stamp < stamp) (entries_at store directory)

module _ (F I : Type 0) where
  -- the object of an id is what is stored under it
  abbrev pub FoundIsStored : Type 0
  FoundIsStored =
      (store : Entries F I) (id : ℕ) → find (λ o. o.id == id) (objects_of store) ≡ option_map (object_of_stored id) (stored_at store id)

  -- there are as many objects as entries, and their ids rise
  abbrev pub ObjectsAreAsMany : Type 0
  ObjectsAreAsMany = (store : Entries F I) → length (objects_of store) ≡ length store

  abbrev pub IdsRise : Type 0
  IdsRise = (store : Entries F I) → IsStore store → AllPairs (λ a b. a.id < b.id) (objects_of store)

  -- a further object is put in order of ids, and one that is taken out goes alone
  abbrev pub NewObjectStandsInOrder : Type 0
  NewObjectStandsInOrder =
      (store : Entries F I) (id : ℕ) (x : StoredObject F I)
      → objects_of (with_entry store id x) ≡ insert_object (object_of_stored id x) (objects_of store)

  abbrev pub ObjectGoesAlone : Type 0
  ObjectGoesAlone =
      (store : Entries F I) (id : ℕ) → objects_of (without_object store id) ≡ filter (λ o. not (o.id == id)) (objects_of store)

  -- an id above those of all objects is free, and its object is the last
  abbrev pub NewestIsFree : Type 0
  NewestIsFree = (store : Entries F I) (id : ℕ) → All (λ o. o.id < id) (objects_of store) → stored_at store id ≡ None

  abbrev pub NewestIsLast : Type 0
  NewestIsLast =
      (store : Entries F I) (id : ℕ) (x : StoredObject F I) → All (λ o. o.id < id) (objects_of store)
      → with_entry store id x ≡ store ++ (id, x) ∷ []

  -- a store with an object more, under a free id and with no entry in it, is a store
  abbrev pub StoreWithObjectIsStore : Type 0
  StoreWithObjectIsStore =
      (store : Entries F I) (id : ℕ) (x : StoredObject F I) → IsStore store → stored_at store id ≡ None
      → entries_in x.body ≡ [] → IsStore (with_entry store id x)

  -- the object of a free id is stored under it, and under the others is what was there
  abbrev pub NewObjectIsStored : Type 0
  NewObjectIsStored = (store : Entries F I) (id : ℕ) (x : StoredObject F I) → stored_at store id ≡ None → stored_at (with_entry store id x) id ≡ Some x

  abbrev pub OthersStayStored : Type 0
  OthersStayStored =
      (store : Entries F I) (id other : ℕ) (x : StoredObject F I) → other ≢ id
      → stored_at (with_entry store id x) other ≡ stored_at store other

  -- an object that came under a free id, a name that came last, and both of them can be taken back
  abbrev pub ObjectIsTakenBack : Type 0
  ObjectIsTakenBack =
      (store : Entries F I) (id : ℕ) (x : StoredObject F I) → stored_at store id ≡ None
      → without_object (with_entry store id x) id ≡ store

  abbrev pub NameIsTakenBack : Type 0
  NameIsTakenBack =
      (store : Entries F I) (directory : ℕ) (entry : DirEntry) → All (λ r. r.stamp < entry.stamp) (rows_of store)
      → without_name (with_name store directory entry) directory entry.stamp ≡ store

  abbrev pub BothAreTakenBack : Type 0
  BothAreTakenBack =
      (store : Entries F I) (id : ℕ) (x : StoredObject F I) (directory : ℕ) (entry : DirEntry)
      → entries_in x.body ≡ [] → stored_at store id ≡ None → All (λ r. r.stamp < entry.stamp) (rows_of store)
      → without_object (without_name (with_name (with_entry store id x) directory entry) directory entry.stamp) id ≡ store

  -- the rows of a store are by rising stamps
  abbrev pub RowsAreByStamp : Type 0
  RowsAreByStamp = (store : Entries F I) → AreByStamp (rows_of store)

  -- of the rows of a store, those that are in a directory are its entries, in their order
  abbrev pub RowsAreTheEntries : Type 0
  RowsAreTheEntries = (store : Entries F I) → IsStore store → (directory : ℕ) → AreEntries (rows_of store) directory (entries_at store directory)

  -- a further object in which no entry lies brings no row
  abbrev pub NewObjectHasNoRow : Type 0
  NewObjectHasNoRow =
      (store : Entries F I) (id : ℕ) (x : StoredObject F I) → entries_in x.body ≡ []
      → rows_of (with_entry store id x) ≡ rows_of store

  -- with an object go the rows that are in it, and no others
  abbrev pub RowsGoWithTheirDirectory : Type 0
  RowsGoWithTheirDirectory =
      (store : Entries F I) (id : ℕ) → rows_of (without_object store id) ≡ filter (λ r. not (r.directory == id)) (rows_of store)

  -- a further entry of a directory, with a stamp above all, is the last row
  abbrev pub NewNameIsTheLastRow : Type 0
  NewNameIsTheLastRow =
      (store : Entries F I) (directory : ℕ) (entry : DirEntry) → IsStore store → IsSome (directory_at store directory)
      → All (λ r. r.stamp < entry.stamp) (rows_of store)
      → rows_of (with_name store directory entry) ≡ rows_of store ++ row_of directory entry ∷ []

  -- with the entries of a stamp in a directory go their rows, and no others
  abbrev pub RowGoesWithItsName : Type 0
  RowGoesWithItsName =
      (store : Entries F I) (directory stamp : ℕ)
      → rows_of (without_name store directory stamp) ≡ filter (λ r. not ((r.directory == directory) && (r.stamp == stamp))) (rows_of store)

  -- a directory's entries are no part of an object in the state
  abbrev pub NamesChangeNoObject : Type 0
  NamesChangeNoObject =
      (store : Entries F I) (directory : ℕ) (entry : DirEntry) (stamp : ℕ)
      → (objects_of (with_name store directory entry) ≡ objects_of store) × (objects_of (without_name store directory stamp) ≡ objects_of store)

  -- permanence is a part of one object, and of no row
  abbrev pub PermanenceIsTheObjects : Type 0
  PermanenceIsTheObjects =
      (store : Entries F I) (id : ℕ) (permanent : Bool)
      → (objects_of (with_permanence store id permanent) ≡ map (λ (o : Object F I). if o.id == id then record o { permanent = permanent } else o) (objects_of store))
      × (rows_of (with_permanence store id permanent) ≡ rows_of store)
