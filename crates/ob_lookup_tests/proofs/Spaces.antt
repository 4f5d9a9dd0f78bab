-- The small namespaces of the tests, with an object more and then its name.
use Rattle.std.proofs.Common.{◌≡◌, ◌≢◌, ◌∙◌, refl, ap, ℕ, ◌<◌, ◌+◌, ◌==◌, Bool, true, false, cond, List, [], ◌∷◌, map, Option, None, All, IsSome, sym, subst, arith}
use Rattle.std.proofs.lemmas.Bool.{false≢true}
use Rattle.std.proofs.lemmas.List.Elements.{All-nil, All-cons, All-head, All-tail, All-weaker, All-map, All-push, All-filter}
use Rattle.std.specs.Option.{unwrap_or}
use Rattle.ob_dirs.specs.declared.entry.DirEntry.{DirEntry}
use Rattle.ob_dirs.specs.Dir.{row_of}
use Rattle.ob_model.specs.declared.state.Row.{Row}
use Rattle.ob_objects.specs.declared.object.StoredBody.{StoredBody}
use Rattle.ob_objects.specs.declared.object.StoredBody.TheVariants.{Directory}
use Rattle.ob_objects.specs.declared.object.StoredObject.{StoredObject}
use Rattle.ob_objects.specs.Store.{Entries, IsStore, object_of_stored, objects_of, stored_at, directory_of, directory_at, entries_in, entries_at, rows_of}
use Rattle.ob_objects.specs.Changes.{with_entry, changed_at, body_with_name, with_name}
use Rattle.ob_objects.proofs.Follow.{newest_is_free, newest_is_last}
use Rattle.ob_objects.proofs.Shown.{new_object_has_no_row, new_name_is_last, rows_are_entries}
use Rattle.ob_lookup_tests.specs.Space.{IsSpace}
use Rattle.ob_lookup.proofs.Stays.{closed_with_object, closed_with_name, directory_with_object, new_object_there}

-- what holds of rows holds of the entries that they are
rows_below : (n d : ℕ) (es : List DirEntry) → All (λ r. r.stamp < n) (map (row_of d) es) → All (λ e. e.stamp < n) es
rows_below n d [] all = All-nil (λ e. e.stamp < n)
rows_below n d (e ∷ es) all =
    All-cons (λ x. x.stamp < n) e es (All-head (λ r. r.stamp < n) (row_of d e) (map (row_of d) es) all)
    (rows_below n d es (All-tail (λ r. r.stamp < n) (row_of d e) (map (row_of d) es) all))

module _ {F I : Type 0} where
  entries_below : (store : Entries F I) (n d : ℕ) → IsStore store → All (λ r. r.stamp < n) (rows_of store) → All (λ e. e.stamp < n) (entries_at store d)
  entries_below store n d is below =
      rows_below n d (entries_at store d) (subst (All (λ r. r.stamp < n)) (rows_are_entries store is d) (All-filter (λ r. r.directory == d) (λ r. r.stamp < n) (rows_of store) below))

  -- the next number is above those of all objects, and so it is free
  ids_of_objects : (store : Entries F I) (next : ℕ) → IsSpace store next → All (λ o. o.id < next) (objects_of store)
  ids_of_objects store next is = All-map (λ o. o.id < next) (λ e. object_of_stored e.0 e.1) store is.ids

  pub next_is_free : (store : Entries F I) (next : ℕ) → IsSpace store next → stored_at store next ≡ None
  next_is_free store next is = newest_is_free store next (ids_of_objects store next is)

  -- without one
  pub space_unchanged : (new store : Entries F I) (id : ℕ) → new ≡ store → IsSpace store id → IsSpace new (id + 1)
  space_unchanged new store id same is = subst (λ (s : Entries F I). IsSpace s (id + 1)) (sym same) (record {
    closed = is.closed;
    ids = All-weaker (λ e. e.0 < id) (λ e. e.0 < id + 1) (λ e below. omega (arith, below)) store is.ids;
    stamps = All-weaker (λ r. r.stamp < id) (λ r. r.stamp < id + 1) (λ r below. omega (arith, below)) (rows_of store) is.stamps;
  })

  -- with an object
  pub space_with_object : (new store : Entries F I) (id : ℕ) (x : StoredObject F I) → new ≡ with_entry store id x → IsSpace store id → entries_in x.body ≡ [] → IsSpace new (id + 1)
  space_with_object new store id x put is none = subst (λ (s : Entries F I). IsSpace s (id + 1)) (sym put) (record {
    closed = closed_with_object store id x is.closed (next_is_free store id is) none;
    ids = subst (All (λ e. e.0 < id + 1)) (sym (newest_is_last store id x (ids_of_objects store id is)))
        (All-push (λ e. e.0 < id + 1) store (id, x) (All-weaker (λ e. e.0 < id) (λ e. e.0 < id + 1) (λ e below. omega (arith, below)) store is.ids) (omega arith));
    stamps = subst (All (λ r. r.stamp < id + 1)) (sym (new_object_has_no_row store id x none))
        (All-weaker (λ r. r.stamp < id) (λ r. r.stamp < id + 1) (λ r below. omega (arith, below)) (rows_of store) is.stamps);
  })

  -- the root alone
  pub first_space : (old new : Entries F I) (x : StoredObject F I) → old ≡ [] → new ≡ with_entry old 1 x → x.body ≡ Directory [] None → IsSpace new 2
  first_space old new x empty put is =
      subst (λ (s : Entries F I). IsSpace s 2) (sym (put ∙ ap (λ (es : Entries F I). with_entry es 1 x) empty)) (record {
        closed = record {
          root = subst (λ (body : StoredBody F I). IsSome (directory_of body)) (sym is) refl;
          rows = none (λ r. IsSome (stored_at ((1, x) ∷ []) r.object));
        };
        ids = All-cons (λ e. e.0 < 2) (1, x) [] (omega arith) (All-nil (λ e. e.0 < 2));
        stamps = none (λ r. r.stamp < 2);
      })
    where
      none : (P : Row → Type 0) → All P (rows_of ((1, x) ∷ []))
      none P = subst (All P) (sym (new_object_has_no_row [] 1 x (ap entries_in is))) (All-nil P)

  -- its directory is there, has the entries that it had, and these are below
  pub directory_there : (new store : Entries F I) (id d : ℕ) (x : StoredObject F I) → new ≡ with_entry store id x → stored_at store id ≡ None
      → IsSome (directory_at store d) → IsSome (directory_at new d)
  directory_there new store id d x put unused there =
      subst (λ (s : Entries F I). IsSome (directory_at s d)) (sym put) (subst IsSome (sym (directory_with_object store id d x unused there)) there)

  pub entries_free : (new store : Entries F I) (id d : ℕ) (x : StoredObject F I) (name : List ℕ) → new ≡ with_entry store id x → stored_at store id ≡ None
      → IsSome (directory_at store d) → All (λ e. e.name ≢ name) (entries_at store d) → All (λ e. e.name ≢ name) (entries_at new d)
  entries_free new store id d x name put unused there free =
      subst (λ (s : Entries F I). All (λ e. e.name ≢ name) (entries_at s d)) (sym put)
      (subst (λ (o : Option (List DirEntry)). All (λ e. e.name ≢ name) (unwrap_or o [])) (sym (directory_with_object store id d x unused there)) free)

  rows_stay_below : (new store : Entries F I) (id : ℕ) (x : StoredObject F I) → new ≡ with_entry store id x → entries_in x.body ≡ []
      → All (λ r. r.stamp < id) (rows_of store) → All (λ r. r.stamp < id) (rows_of new)
  rows_stay_below new store id x put none below =
      subst (λ (s : Entries F I). All (λ r. r.stamp < id) (rows_of s)) (sym put) (subst (All (λ r. r.stamp < id)) (sym (new_object_has_no_row store id x none)) below)

  pub entries_newest : (new store : Entries F I) (id d : ℕ) (x : StoredObject F I) → new ≡ with_entry store id x → entries_in x.body ≡ [] → IsStore new
      → All (λ r. r.stamp < id) (rows_of store) → All (λ e. e.stamp < id) (entries_at new d)
  entries_newest new store id d x put none is below = entries_below new id d is (rows_stay_below new store id x put none below)

  -- and no row names it yet
  pub rows_unnamed : (new store : Entries F I) (id : ℕ) (x : StoredObject F I) → new ≡ with_entry store id x → IsSpace store id → entries_in x.body ≡ [] → All (λ r. r.object ≢ id) (rows_of new)
  rows_unnamed new store id x put is none =
      subst (λ (s : Entries F I). All (λ r. r.object ≢ id) (rows_of s)) (sym put)
      (subst (All (λ r. r.object ≢ id)) (sym (new_object_has_no_row store id x none))
      (All-weaker (λ r. IsSome (stored_at store r.object)) (λ r. r.object ≢ id)
      (λ r there same. false≢true (subst IsSome (ap (stored_at store) same ∙ next_is_free store id is) there)) (rows_of store) is.closed.rows))

  -- with its name
  ids_stay : (store : Entries F I) (n d : ℕ) (change : StoredObject F I → StoredObject F I) → All (λ e. e.0 < n) store → All (λ e. e.0 < n) (changed_at d change store)
  ids_stay [] n d change all = All-nil (λ e. e.0 < n)
  ids_stay (o ∷ store) n d change all =
      go (o.0 == d) (ids_stay store n d change (All-tail (λ (e : ℕ × StoredObject F I). e.0 < n) o store all))
    where
      go : (t : Bool) → All (λ (e : ℕ × StoredObject F I). e.0 < n) (changed_at d change store)
          → All (λ (e : ℕ × StoredObject F I). e.0 < n) (cond t (o.0, change o.1) o ∷ changed_at d change store)
      go true more = All-cons (λ (e : ℕ × StoredObject F I). e.0 < n) (o.0, change o.1) (changed_at d change store) (All-head (λ (e : ℕ × StoredObject F I). e.0 < n) o store all) more
      go false more = All-cons (λ (e : ℕ × StoredObject F I). e.0 < n) o (changed_at d change store) (All-head (λ (e : ℕ × StoredObject F I). e.0 < n) o store all) more

  pub space_with_name : (named new store : Entries F I) (id d : ℕ) (x : StoredObject F I) (name : List ℕ) → new ≡ with_entry store id x
      → named ≡ with_name new d (record { stamp = id; name = name; object = id }) → IsSpace store id → entries_in x.body ≡ [] → IsStore new → IsSome (directory_at store d)
      → IsSpace named (id + 1)
  space_with_name named new store id d x name put is_named space none is there =
      let whole = space_with_object new store id x put space none in
      let dir = directory_there new store id d x put (next_is_free store id space) there in
      let below = rows_stay_below new store id x put none space.stamps in
      let entry : DirEntry = record { stamp = id; name = name; object = id } in
      let object = subst (λ (s : Entries F I). IsSome (stored_at s id)) (sym put) (new_object_there store id x (next_is_free store id space)) in
      subst (λ (s : Entries F I). IsSpace s (id + 1)) (sym is_named) (record {
        closed = closed_with_name new d entry is whole.closed dir below object;
        ids = ids_stay new (id + 1) d (λ y. record y { body = body_with_name entry y.body }) whole.ids;
        stamps = subst (All (λ r. r.stamp < id + 1)) (sym (new_name_is_last new d entry is dir below))
            (All-push (λ r. r.stamp < id + 1) (rows_of new) (row_of d entry) whole.stamps (omega arith));
      })
