-- A state that shows a store: its bodies, the entry that a search of a directory finds, and that this object exists.
use Rattle.std.proofs.Common.{◌≡◌, ◌∙◌, ℕ, ◌==◌, Bool, true, false, List, [], Option, None, Some, MatchOption, option_map, if◌then◌else◌, filter, All, IsSome, refl, ap, sym, subst}
use Rattle.std.proofs.lemmas.Bool.{false≢true}
use Rattle.std.proofs.lemmas.List.Elements.{All-filter, All-weaker}
use Rattle.std.specs.Option.{option_and_then, option_map_or, option_or, unwrap_or, is_some}
use Rattle.ob_model.specs.declared.state.Body.{Body}
use Rattle.ob_model.specs.declared.state.Body.TheVariants as model
use Rattle.ob_model.specs.declared.state.Object.{Object}
use Rattle.ob_model.specs.declared.state.Row.{Row}
use Rattle.ob_model.specs.State.{State, body_of, is_directory, is_directory_body, shadow_in, shadow_of, process_of, root_id, global_id}
use Rattle.ob_model.specs.Paths.{InDirectory, entry, found, named_object, is_match, local}
use Rattle.ob_model.specs.Paths as paths
use Rattle.ob_model.specs.declared.state.Process.{Process}
use Rattle.ob_model.specs.Sound.{Stands, IsDirectory, HasSoundMap}
use Rattle.ob_model.proofs.SoundPaths.{earliest_of, find_of}
use Rattle.ob_devmap.specs.declared.view.View.{View}
use Rattle.ob_devmap.specs.View.{IsViewOf}
use Rattle.ob_dirs.specs.declared.entry.DirEntry.{DirEntry}
use Rattle.ob_dirs.specs.Dir.{entry_found, row_of}
use Rattle.ob_objects.specs.declared.object.StoredBody.{StoredBody}
use Rattle.ob_objects.specs.declared.object.StoredBody.TheVariants.{Directory, Link, Other}
use Rattle.ob_objects.specs.declared.object.StoredObject.{StoredObject}
use Rattle.ob_objects.specs.Store as bodies
use Rattle.ob_objects.specs.Store.{Entries, IsStore, Shows, stored_at, directory_at, entries_at, body_of_stored, object_of_stored, objects_of, rows_of}
use Rattle.ob_objects.proofs.Shown.{stored_is_object, store_finds}
use Rattle.ob_lookup.specs.declared.start.Standpoint.{Standpoint}
use Rattle.ob_lookup.specs.declared.start.Standpoint.TheVariants as place
use Rattle.ob_lookup.specs.Closed.{IsClosed, IsViewThere, SoundIsClosed, SoundHasViews}
use Rattle.ob_lookup.specs.Walk.{local_of, directory_of, origin_at, shadow_at, object_in, object_seen, object_at}

-- what is mapped of one or else of another
map_or : {A B : Type 0} (f : A → B) (x y : Option A) → option_map f (option_or x y) ≡ option_or (option_map f x) (option_map f y)
map_or f None y = refl
map_or f (Some x) y = refl

or_none : {A : Type 0} (x : Option A) → x ≡ option_or x None
or_none None = refl
or_none (Some x) = refl

map_then : {A B C : Type 0} (f : B → C) (g : A → Option B) (x : Option A) → option_map f (option_and_then g x) ≡ option_and_then (λ a. option_map f (g a)) x
map_then f g None = refl
map_then f g (Some x) = refl

module _ {K T F I : Type 0} (s : State K T F I) where
  -- what a component names in a directory: an own entry of it, or one of its shadow
  pub named_in_parts : (d : ℕ) (c : List ℕ) (own fold : Bool) → named_object s d c own fold
      ≡ option_or (option_map (λ r. r.object) (found s d c fold)) (if own then None else option_and_then (λ x. option_map (λ r. r.object) (found s x c fold)) (shadow_of s d))
  named_in_parts d c true fold = or_none (option_map (λ (r : Row). r.object) (found s d c fold))
  named_in_parts d c false fold =
      map_or (λ (r : Row). r.object) (found s d c fold) (option_and_then (λ x. found s x c fold) (shadow_of s d))
      ∙ ap (option_or (option_map (λ (r : Row). r.object) (found s d c fold))) (map_then (λ (r : Row). r.object) (λ x. found s x c fold) (shadow_of s d))

module _ {K T F I : Type 0} (s : State K T F I) (store : Entries F I) (shows : Shows s store) where
  -- the body of an object
  pub body_shown : (id : ℕ) → body_of s id ≡ option_map (λ x. body_of_stored x.body) (stored_at store id)
  body_shown id = ap (option_map (λ (x : Object F I). x.body)) (stored_is_object s store shows id) ∙ go (stored_at store id)
    where
      go : (o : Option (StoredObject F I)) → option_map (λ x. x.body) (option_map (object_of_stored id) o) ≡ option_map (λ x. body_of_stored x.body) o
      go None = refl
      go (Some x) = refl

  pub body_is : (id : ℕ) (body : StoredBody F I) → option_map (λ x. x.body) (stored_at store id) ≡ Some body → body_of s id ≡ Some (body_of_stored body)
  body_is id body stored = body_shown id ∙ go (stored_at store id) stored
    where
      go : (o : Option (StoredObject F I)) → option_map (λ x. x.body) o ≡ Some body → option_map (λ x. body_of_stored x.body) o ≡ Some (body_of_stored body)
      go None e = cc
      go (Some x) e = let same : x.body ≡ body = cc in ap (λ b. Some (body_of_stored b)) same

  -- a directory of the store is one of the state, with its shadow
  pub directory_is : (id : ℕ) (entries : List DirEntry) → directory_at store id ≡ Some entries → body_of s id ≡ Some (model.Directory (shadow_at store id))
  directory_is id entries stored = body_shown id ∙ go (stored_at store id) stored
    where
      at_body : (body : StoredBody F I) → bodies.directory_of body ≡ Some entries → body_of_stored body ≡ model.Directory (shadow_in (body_of_stored body))
      at_body (Directory es shadow) e = refl
      at_body (Link target) e = cc
      at_body (Other face inner) e = cc

      go : (o : Option (StoredObject F I)) → option_and_then (λ x. bodies.directory_of x.body) o ≡ Some entries
          → option_map (λ x. body_of_stored x.body) o ≡ Some (model.Directory (option_and_then (λ x. shadow_in (body_of_stored x.body)) o))
      go None e = cc
      go (Some x) e = ap Some (at_body x.body e)

  -- the shadow of an object
  pub shadow_shown : (id : ℕ) → shadow_of s id ≡ shadow_at store id
  shadow_shown id = ap (option_and_then shadow_in) (body_shown id) ∙ go (stored_at store id)
    where
      go : (o : Option (StoredObject F I)) → option_and_then shadow_in (option_map (λ x. body_of_stored x.body) o) ≡ option_and_then (λ x. shadow_in (body_of_stored x.body)) o
      go None = refl
      go (Some x) = refl

  pub is_directory-from_body : (id : ℕ) (body : Body F I) → body_of s id ≡ Some body → is_directory s id ≡ is_directory_body body
  is_directory-from_body id body e = ap (λ (o : Option (Body F I)). option_map_or is_directory_body o false) e

  -- a directory of the store is one of the state
  pub is_directory_there : (id : ℕ) (entries : List DirEntry) → directory_at store id ≡ Some entries → is_directory s id ≡ true
  is_directory_there id entries stored = is_directory-from_body id (model.Directory (shadow_at store id)) (directory_is id entries stored)

  -- the object of the entry that a component finds in a directory
  pub found_shown : (id : ℕ) (component : List ℕ) (fold : Bool) → IsStore store → option_map (λ r. r.object) (found s id component fold) ≡ object_in (entries_at store id) component fold
  found_shown id component fold is = ap (option_map (λ (r : Row). r.object)) (store_finds s store is shows id component fold) ∙ go (entry_found (entries_at store id) component fold)
    where
      go : (o : Option DirEntry) → option_map (λ r. r.object) (option_map (row_of id) o) ≡ option_map (λ e. e.object) o
      go None = refl
      go (Some x) = refl

  -- what a component names in a directory
  pub named_shown : (id : ℕ) (entries : List DirEntry) (shadow : Option ℕ) (component : List ℕ) (own fold : Bool)
      → IsStore store → directory_at store id ≡ Some entries → shadow_at store id ≡ shadow → named_object s id component own fold ≡ object_seen store entries shadow component own fold
  named_shown id entries shadow component own fold is stored beneath =
      named_in_parts s id component own fold
      ∙ (λ i. option_or (here i) (if own then None else below i))
    where
      here : option_map (λ r. r.object) (found s id component fold) ≡ object_in entries component fold
      here = found_shown id component fold is ∙ ap (λ (o : Option (List DirEntry)). object_in (unwrap_or o []) component fold) stored

      each : (o : Option ℕ) → option_and_then (λ d. option_map (λ r. r.object) (found s d component fold)) o ≡ option_and_then (λ d. object_in (entries_at store d) component fold) o
      each None = refl
      each (Some d) = found_shown d component fold is

      below : option_and_then (λ d. option_map (λ r. r.object) (found s d component fold)) (shadow_of s id) ≡ option_and_then (λ d. object_in (entries_at store d) component fold) shadow
      below = ap (option_and_then (λ d. option_map (λ r. r.object) (found s d component fold))) (shadow_shown id ∙ beneath) ∙ each shadow

-- a directory that is there has its entries
pub entries_there : {F I : Type 0} (store : Entries F I) (id : ℕ) → IsSome (directory_at store id) → directory_at store id ≡ Some (entries_at store id)
entries_there store id there = go (directory_at store id) there
  where
    go : (o : Option (List DirEntry)) → IsSome o → o ≡ Some (unwrap_or o [])
    go None e = absurd (false≢true e)
    go (Some es) e = refl

module _ {K T F I : Type 0} (s : State K T F I) (p : ℕ) (view : View) (of : IsViewOf s p view) where
  -- the local directory of a process is that of its view
  pub local_seen : local s p ≡ local_of view
  local_seen = ap (λ (o : Option ℕ). unwrap_or o global_id) (sym of.0) ∙ ap (λ (d : ℕ). unwrap_or view.local d) (sym of.1)

  -- so is the directory that a place is
  pub place_seen : (at : Standpoint) → paths.directory_at s (origin_at p at) ≡ directory_of view at
  place_seen (place.InDirectory id) = refl
  place_seen place.InView = local_seen

  -- what a component names at a place
  pub entry_seen : (store : Entries F I) (at : Standpoint) (entries : List DirEntry) (shadow : Option ℕ) (component : List ℕ) (own fold : Bool) (named : Option ℕ)
      → Shows s store → IsStore store → directory_at store (directory_of view at) ≡ Some entries → shadow_at store (directory_of view at) ≡ shadow → IsSome (directory_at store view.global)
      → named ≡ object_at store view at entries shadow component own fold → entry s (origin_at p at) component own fold ≡ named
  entry_seen store (place.InDirectory id) entries shadow component own fold named shows is stored beneath global found =
      named_shown s store shows id entries shadow component own fold is stored beneath ∙ sym found
  entry_seen store place.InView entries shadow component own fold named shows is stored beneath global found =
      (λ i. option_or (named_object s (local_seen i) component own fold) (named_object s ((sym of.1) i) component own fold))
      ∙ (λ i. option_or (named_shown s store shows (local_of view) entries shadow component own fold is stored beneath i)
      (named_shown s store shows view.global (entries_at store view.global) (shadow_at store view.global) component own fold is (entries_there store view.global global) refl i))
      ∙ sym found

-- a state that shows a store
abbrev pub state_of : {F I : Type 0} → Entries F I → State (Unit {0}) (Unit {0}) F I
state_of store = record {
  objects = objects_of store;
  rows = rows_of store;
  handles = [];
  processes = [];
  pending = [];
  set = tt;
  next_id = 0;
  next_stamp = 0;
  next_process = 0;
  next_order = 0;
}

-- in a closed store what a component finds in a directory is there
found_stands : {F I : Type 0} (store : Entries F I) (id : ℕ) (component : List ℕ) (fold : Bool) (object : ℕ)
    → IsStore store → IsClosed store → Some object ≡ object_in (entries_at store id) component fold → IsSome (stored_at store object)
found_stands {F} {I} store id component fold object is closed named =
    go (found s id component fold) (earliest_of P (filter (is_match id component fold) (rows_of store)) (All-filter (is_match id component fold) P (rows_of store) closed.rows))
    (found_shown s store shows id component fold is ∙ sym named)
  where
    s : State (Unit {0}) (Unit {0}) F I
    s = state_of store

    shows : Shows s store
    shows = record { objects = refl; rows = refl }

    P : Row → Type 0
    P r = IsSome (stored_at store r.object)

    go : (o : Option Row) → MatchOption o (Unit {0}) P → option_map (λ r. r.object) o ≡ Some object → IsSome (stored_at store object)
    go None h e = cc
    go (Some r) h e = let same : r.object ≡ object = cc in subst (λ (k : ℕ). IsSome (stored_at store k)) same h

-- so is what is seen there
seen_stands : {F I : Type 0} (store : Entries F I) (id : ℕ) (entries : List DirEntry) (shadow : Option ℕ) (component : List ℕ) (own fold : Bool) (object : ℕ)
    → IsStore store → IsClosed store → directory_at store id ≡ Some entries → Some object ≡ object_seen store entries shadow component own fold → IsSome (stored_at store object)
seen_stands store id entries shadow component own fold object is closed stored named = go (object_in entries component fold) refl named
  where
    below : (own : Bool) (o : Option ℕ) → Some object ≡ (if own then None else option_and_then (λ d. object_in (entries_at store d) component fold) o) → IsSome (stored_at store object)
    below true o h = cc
    below false None h = cc
    below false (Some d) h = found_stands store d component fold object is closed h

    go : (o : Option ℕ) → o ≡ object_in entries component fold
        → Some object ≡ option_or o (if own then None else option_and_then (λ d. object_in (entries_at store d) component fold) shadow) → IsSome (stored_at store object)
    go None e h = below own shadow h
    go (Some x) e h = found_stands store id component fold object is closed (h ∙ e ∙ ap (λ (o : Option (List DirEntry)). object_in (unwrap_or o []) component fold) (sym stored))

-- also at a place
pub named_at_stands : {F I : Type 0} (store : Entries F I) (view : View) (at : Standpoint) (entries : List DirEntry) (shadow : Option ℕ) (component : List ℕ) (own fold : Bool) (object : ℕ)
    → IsStore store → IsClosed store → IsViewThere store view → directory_at store (directory_of view at) ≡ Some entries
    → Some object ≡ object_at store view at entries shadow component own fold → IsSome (stored_at store object)
named_at_stands store view (place.InDirectory id) entries shadow component own fold object is closed there stored named =
    seen_stands store id entries shadow component own fold object is closed stored named
named_at_stands store view place.InView entries shadow component own fold object is closed there stored named = go (object_seen store entries shadow component own fold) refl named
  where
    go : (o : Option ℕ) → o ≡ object_seen store entries shadow component own fold
        → Some object ≡ option_or o (object_seen store (entries_at store view.global) (shadow_at store view.global) component own fold) → IsSome (stored_at store object)
    go None e h = seen_stands store view.global (entries_at store view.global) (shadow_at store view.global) component own fold object is closed (entries_there store view.global there.global) h
    go (Some x) e h = seen_stands store (local_of view) entries shadow component own fold object is closed stored (h ∙ e)

-- a directory of a state is one of the store that it shows
pub directory_stored : {K T F I : Type 0} (s : State K T F I) (store : Entries F I) → Shows s store → (id : ℕ) → is_directory s id ≡ true → IsSome (directory_at store id)
directory_stored {F = F} {I = I} s store shows id dir = go (stored_at store id) (sym (ap (λ (o : Option (Body F I)). option_map_or is_directory_body o false) (body_shown s store shows id)) ∙ dir)
  where
    at_body : (body : StoredBody F I) → is_directory_body (body_of_stored body) ≡ true → IsSome (bodies.directory_of body)
    at_body (Directory es shadow) e = refl
    at_body (Link target) e = absurd (false≢true e)
    at_body (Other face inner) e = absurd (false≢true e)

    go : (o : Option (StoredObject F I)) → option_map_or is_directory_body (option_map (λ x. body_of_stored x.body) o) false ≡ true → IsSome (option_and_then (λ x. bodies.directory_of x.body) o)
    go None e = absurd (false≢true e)
    go (Some x) e = at_body x.body e

-- the store that a sound state shows is closed
pub closed_from_sound : {K T F I : Type 0} → SoundIsClosed K T F I
closed_from_sound {K} {T} {F} {I} s store shows sound = record {
  root = directory_stored s store shows root_id sound.objects.root;
  rows = All-weaker (λ r. Stands s r.object) (λ r. IsSome (stored_at store r.object)) (λ r stands. stands_stored r.object stands) (rows_of store)
      (subst (All (λ r. Stands s r.object)) shows.rows sound.rows.standing);
}
  where
    stands_stored : (id : ℕ) → Stands s id → IsSome (stored_at store id)
    stands_stored id stands = go (stored_at store id) (sym (ap is_some (stored_is_object s store shows id)) ∙ stands)
      where
        go : (o : Option (StoredObject F I)) → is_some (option_map (object_of_stored id) o) ≡ true → is_some o ≡ true
        go None e = e
        go (Some x) e = refl

-- and the directories of a process's view are there
pub views_from_sound : {K T F I : Type 0} → SoundHasViews K T F I
views_from_sound {K} {T} {F} {I} s store p view shows sound of = record {
  local = go view.local of.0 (map_of (process_of s p) (find_of (HasSoundMap s) (λ x. x.number == p) s.processes sound.processes.maps));
  global = subst (λ (d : ℕ). IsSome (directory_at store d)) (sym of.1) (directory_stored s store shows global_id sound.objects.global);
  is_global = of.1;
}
  where
    map_of : (x : Option Process) → MatchOption x (Unit {0}) (HasSoundMap s) → MatchOption (option_and_then (λ y. y.map) x) (Unit {0}) (IsDirectory s)
    map_of None h = tt
    map_of (Some x) h = h

    go : (o : Option ℕ) → o ≡ option_and_then (λ x. x.map) (process_of s p) → MatchOption (option_and_then (λ x. x.map) (process_of s p)) (Unit {0}) (IsDirectory s)
        → MatchOption o (Unit {0}) (λ id. IsSome (directory_at store id))
    go None e h = tt
    go (Some d) e h = directory_stored s store shows d (subst (λ (o : Option ℕ). MatchOption o (Unit {0}) (IsDirectory s)) (sym e) h)

-- the entries of a directory's body are those of the directory
pub directory_from_body : {F I : Type 0} (store : Entries F I) (id : ℕ) (entries : List DirEntry) (shadow : Option ℕ)
    → option_map (λ x. x.body) (stored_at store id) ≡ Some (Directory entries shadow) → directory_at store id ≡ Some entries
directory_from_body {F} {I} store id entries shadow stored = go (stored_at store id) stored
  where
    go : (o : Option (StoredObject F I)) → option_map (λ x. x.body) o ≡ Some (Directory entries shadow) → option_and_then (λ x. bodies.directory_of x.body) o ≡ Some entries
    go None e = cc
    go (Some x) e = let same : x.body ≡ Directory entries shadow = cc in ap bodies.directory_of same

-- and its shadow is that of the directory
pub shadow_from_body : {F I : Type 0} (store : Entries F I) (id : ℕ) (entries : List DirEntry) (shadow : Option ℕ)
    → option_map (λ x. x.body) (stored_at store id) ≡ Some (Directory entries shadow) → shadow_at store id ≡ shadow
shadow_from_body {F} {I} store id entries shadow stored = go (stored_at store id) stored
  where
    go : (o : Option (StoredObject F I)) → option_map (λ x. x.body) o ≡ Some (Directory entries shadow) → option_and_then (λ x. shadow_in (body_of_stored x.body)) o ≡ shadow
    go None e = cc
    go (Some x) e = let same : x.body ≡ Directory entries shadow = cc in ap (λ (b : StoredBody F I). shadow_in (body_of_stored b)) same
