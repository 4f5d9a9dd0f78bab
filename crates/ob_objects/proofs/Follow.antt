-- Objects and names that come and go: what each makes of the objects of a store, and how it is taken
-- back.
use Rattle.std.proofs.Common.{◌≡◌, ◌≢◌, ◌∙◌, ℕ, suc, ◌<◌, ◌==◌, Bool, true, false, cond, not, List, [], ◌∷◌, ◌++◌, filter, find, map, Option, None, Some, option_map, All, refl, ap, sym, subst, arith, append-nil, eq-eqb}
use Rattle.std.proofs.lemmas.Bool.Decides.{nat_tests}
use Rattle.std.proofs.lemmas.List.Elements.{All-nil, All-cons, All-head, All-tail, All-weaker, filter-append}
use Rattle.std.proofs.lemmas.List.Kept.{AllPairs-cons}
use Rattle.std.proofs.lemmas.Map.Keys.{sorted_head, sorted_tail}
use Rattle.std.specs.declared.cmp.Ordering.TheVariants.{Less}
use Rattle.std.specs.List.{AllPairs, AllByRecursion}
use Rattle.std.specs.List.Sorted.{IsStrictlySortedBy}
use Rattle.std.specs.Map.{keys_of}
use Rattle.std.specs.Option.{option_and_then, option_map_or}
use Rattle.std.specs.Ordering.{nat_cmp}
use Rattle.ob_model.proofs.Finds.{find_none, not_found, filter_all}
use Rattle.ob_model.proofs.InOrder.{in_order-back, in_order-map}
use Rattle.ob_model.proofs.InOrder.{newest_is_last as last_in_order}
use Rattle.ob_model.proofs.Soundness.{opened_object-id}
use Rattle.ob_model.specs.State.{insert_object, shadow_in}
use Rattle.ob_model.specs.declared.state.Object.{Object}
use Rattle.ob_model.specs.declared.state.Row.{Row}
use Rattle.ob_model.specs.declared.terms.Reason.{Reason}
use Rattle.ob_model.specs.Procedures.{Procedures}
use Rattle.ob_model.specs.Grants.{open_refusal_of, opened_body, opened_object, opened_set}
use Rattle.ob_model.specs.Closing.{closed_set}
use Rattle.ob_dirs.specs.declared.entry.DirEntry.{DirEntry}
use Rattle.ob_dirs.specs.Dir.{IsDir, row_of}
use Rattle.ob_objects.specs.declared.object.StoredBody.{StoredBody}
use Rattle.ob_objects.specs.declared.object.StoredBody.TheVariants.{Directory, Link, Other}
use Rattle.ob_objects.specs.declared.object.StoredObject.{StoredObject}
use Rattle.ob_objects.specs.Store.{Entries, stored_at, entries_in, body_of_stored, object_of_stored, objects_of, rows_in_turn}
use Rattle.ob_objects.specs.Changes.{with_entry, without_object, body_with_name, body_without_name, with_name, without_name}
use Rattle.ob_objects.specs.Laws.{FoundIsStored, ObjectsAreAsMany, IdsRise, NewObjectStandsInOrder, ObjectGoesAlone, NewestIsFree, NewestIsLast, StoreWithObjectIsStore, NewObjectIsStored, OthersStayStored, RefusalIsTheMachines, SetAfterOpenIsTheMachines, SetAfterCloseIsTheMachines, NewObjectOpens, ObjectIsTakenBack, NameIsTakenBack, BothAreTakenBack}
use Rattle.ob_objects.specs.Rows.{stamp_of}
use Rattle.ob_model.proofs.Sorted.{sorted_by-All}
use Rattle.ob_objects.proofs.Entries.{stored_free, stored_new, stored_other, rising_with_entry, directories_with_entry}
use Rattle.ob_objects.proofs.Shown.{find_object, all_parts, new_object_has_no_row, stored_is_object, opened_is_machines}

-- ---- numbers

less_is_below : (k y : ℕ) → nat_cmp k y ≡ Less → k < y
less_is_below k y e = grind (arith, nat_tests)

below_differs : (k id : ℕ) → k < id → (k == id) ≡ false
below_differs k id below = grind (arith, nat_tests)

-- a directory without an entry
none_is_dir : IsDir []
none_is_dir i j d before within = absurd (omega (arith, within))

-- what holds of the rows of some entries holds of the entries
pub entries_of_rows : (P : Row → Type 0) (d : ℕ) (es : List DirEntry) → All P (map (row_of d) es) → All (λ e. P (row_of d e)) es
entries_of_rows P d [] all = All-nil (λ e. P (row_of d e))
entries_of_rows P d (e ∷ es) all =
    All-cons (λ x. P (row_of d x)) e es (All-head P (row_of d e) (map (row_of d) es) all) (entries_of_rows P d es (All-tail P (row_of d e) (map (row_of d) es) all))

module _ {F I : Type 0} where
  -- ---- what the objects are

  pub found_is_stored : FoundIsStored F I
  found_is_stored store id = find_object store id

  pub as_many : ObjectsAreAsMany F I
  as_many [] = refl
  as_many (e ∷ store) = ap suc (as_many store)

  ids_above : (a : Object F I) (store : Entries F I) → AllByRecursion (λ y. nat_cmp a.id y ≡ Less) (keys_of store) → All (λ b. a.id < b.id) (objects_of store)
  ids_above a [] above = All-nil (λ b. a.id < b.id)
  ids_above a (e ∷ store) above =
      All-cons (λ (b : Object F I). a.id < b.id) (object_of_stored e.0 e.1) (objects_of store) (less_is_below a.id e.0 above.0) (ids_above a store above.1)

  ids_rise_by : (store : Entries F I) → IsStrictlySortedBy nat_cmp (keys_of store) → AllPairs (λ a b. a.id < b.id) (objects_of store)
  ids_rise_by [] rising = λ i j d before within. absurd (omega (arith, within))
  ids_rise_by (e ∷ store) rising =
      AllPairs-cons (λ (a b : Object F I). a.id < b.id) (object_of_stored e.0 e.1) (objects_of store)
      (ids_above (object_of_stored e.0 e.1) store (sorted_head nat_cmp e.0 (keys_of store) rising)) (ids_rise_by store (sorted_tail nat_cmp e.0 (keys_of store) rising))

  pub ids_rise : IdsRise F I
  ids_rise store is = ids_rise_by store is.rising

  -- ---- an object comes, or goes

  pub new_object_in_order : NewObjectStandsInOrder F I
  new_object_in_order store id x = in_order-map (λ e. e.0) (λ o. o.id) (λ e. object_of_stored e.0 e.1) (λ e. refl) (id, x) store

  pub object_goes_alone : ObjectGoesAlone F I
  object_goes_alone [] id = refl
  object_goes_alone (e ∷ store) id = go (e.0 == id) (object_goes_alone store id)
    where
      go : (t : Bool) → objects_of (without_object store id) ≡ filter (λ o. not (o.id == id)) (objects_of store)
          → objects_of (cond (not t) (e ∷ without_object store id) (without_object store id))
          ≡ cond (not t) (object_of_stored e.0 e.1 ∷ filter (λ o. not (o.id == id)) (objects_of store)) (filter (λ o. not (o.id == id)) (objects_of store))
      go true more = more
      go false more = ap (λ os. object_of_stored e.0 e.1 ∷ os) more

  ids_below : (store : Entries F I) (id : ℕ) → All (λ o. o.id < id) (objects_of store) → All (λ e. e.0 < id) store
  ids_below [] id below = All-nil (λ e. e.0 < id)
  ids_below (e ∷ store) id below =
      All-cons (λ (x : ℕ × StoredObject F I). x.0 < id) e store (All-head (λ (o : Object F I). o.id < id) (object_of_stored e.0 e.1) (objects_of store) below)
      (ids_below store id (All-tail (λ (o : Object F I). o.id < id) (object_of_stored e.0 e.1) (objects_of store) below))

  pub newest_is_free : NewestIsFree F I
  newest_is_free store id below =
      ap (option_map (λ (e : ℕ × StoredObject F I). e.1))
      (find_none (λ e. e.0 == id) store
      (All-weaker (λ (e : ℕ × StoredObject F I). e.0 < id) (λ (e : ℕ × StoredObject F I). (e.0 == id) ≡ false) (λ e less. below_differs e.0 id less) store (ids_below store id below)))

  pub newest_is_last : NewestIsLast F I
  newest_is_last store id x below = last_in_order (λ e. e.0) (id, x) store (ids_below store id below)

  pub store_with_object : StoreWithObjectIsStore F I
  store_with_object store id x is free none = record {
    rising = rising_with_entry store id x free is.rising;
    directories = directories_with_entry store id x (subst IsDir (sym none) none_is_dir) is.directories;
    named_once = subst (AllPairs (λ a b. a.object ≢ b.object)) (sym (new_object_has_no_row store id x none)) is.named_once;
  }

  pub new_object_is_stored : NewObjectIsStored F I
  new_object_is_stored store id x free = stored_new store id x free

  pub others_stay_stored : OthersStayStored F I
  others_stay_stored store id other x differ = stored_other store id other x differ

  -- ---- what came is taken back

  pub object_taken_back : ObjectIsTakenBack F I
  object_taken_back store id x free = in_order-back (λ e. e.0) (id, x) store (stored_free store id free)

  body_taken_back : (entry : DirEntry) (body : StoredBody F I) → All (λ e. e.stamp < entry.stamp) (entries_in body)
      → body_without_name entry.stamp (body_with_name entry body) ≡ body
  body_taken_back entry (Directory entries shadow) below =
      ap (λ es. Directory es shadow) (filter-append (λ e. not (e.stamp == entry.stamp)) entries (entry ∷ [])
      ∙ ap (λ es. es ++ filter (λ e. not (e.stamp == entry.stamp)) (entry ∷ []))
      (filter_all (λ e. not (e.stamp == entry.stamp)) entries
      (All-weaker (λ e. e.stamp < entry.stamp) (λ e. not (e.stamp == entry.stamp) ≡ true) (λ e less. ap not (below_differs e.stamp entry.stamp less)) entries below))
      ∙ ap (λ t. entries ++ cond (not t) (entry ∷ []) []) (eq-eqb entry.stamp entry.stamp refl)
      ∙ append-nil entries)
  body_taken_back entry (Link target) below = refl
  body_taken_back entry (Other face inner) below = refl

  names_taken_back : (store : Entries F I) (d : ℕ) (entry : DirEntry) → All (λ r. r.stamp < entry.stamp) (rows_in_turn store)
      → without_name (with_name store d entry) d entry.stamp ≡ store
  names_taken_back [] d entry below = refl
  names_taken_back (e ∷ store) d entry below =
      let parts = all_parts (λ r. r.stamp < entry.stamp) (map (row_of e.0) (entries_in e.1.body)) (rows_in_turn store) below in
      go (e.0 == d) refl (entries_of_rows (λ r. r.stamp < entry.stamp) e.0 (entries_in e.1.body) parts.0) (names_taken_back store d entry parts.1)
    where
      named : StoredObject F I → StoredObject F I
      named x = record x { body = body_with_name entry x.body }

      unnamed : StoredObject F I → StoredObject F I
      unnamed x = record x { body = body_without_name entry.stamp x.body }

      one : ℕ × StoredObject F I → ℕ × StoredObject F I
      one x = cond (x.0 == d) (x.0, unnamed x.1) x

      go : (t : Bool) → (e.0 == d) ≡ t → All (λ x. x.stamp < entry.stamp) (entries_in e.1.body)
          → without_name (with_name store d entry) d entry.stamp ≡ store
          → one (cond t (e.0, named e.1) e) ∷ without_name (with_name store d entry) d entry.stamp ≡ e ∷ store
      go true here below more =
          ap (λ t. cond t (e.0, unnamed (named e.1)) (e.0, named e.1) ∷ without_name (with_name store d entry) d entry.stamp) here
          ∙ ap (λ body. (e.0, record e.1 { body = body }) ∷ without_name (with_name store d entry) d entry.stamp) (body_taken_back entry e.1.body below)
          ∙ ap (λ es. e ∷ es) more
      go false apart below more =
          ap (λ t. cond t (e.0, unnamed e.1) e ∷ without_name (with_name store d entry) d entry.stamp) apart ∙ ap (λ es. e ∷ es) more

  pub name_taken_back : NameIsTakenBack F I
  name_taken_back store d entry below = names_taken_back store d entry (sorted_by-All stamp_of (λ r. r.stamp < entry.stamp) (rows_in_turn store) below)

  pub both_taken_back : BothAreTakenBack F I
  both_taken_back store id x d entry none free below =
      ap (λ es. without_object es id) (name_taken_back (with_entry store id x) d entry
      (subst (All (λ r. r.stamp < entry.stamp)) (sym (new_object_has_no_row store id x none)) below))
      ∙ object_taken_back store id x free

module _ {K T F I : Type 0} where
  -- ---- the set is asked as the machine asks it

  pub refusal_is_machines : RefusalIsTheMachines K T F I
  refusal_is_machines g s store shows id reason =
      go (stored_at store id) ∙ ap (λ o. option_and_then (λ body. open_refusal_of g s.set body reason) (option_map (λ (x : Object F I). x.body) o)) (sym (stored_is_object s store shows id))
    where
      go : (o : Option (StoredObject F I)) → option_and_then (λ x. open_refusal_of g s.set (body_of_stored x.body) reason) o
          ≡ option_and_then (λ body. open_refusal_of g s.set body reason) (option_map (λ x. x.body) (option_map (object_of_stored id) o))
      go None = refl
      go (Some x) = refl

  pub set_after_open_is_machines : SetAfterOpenIsTheMachines K T F I
  set_after_open_is_machines g s store shows id reason =
      go (stored_at store id) ∙ ap (λ o. option_map_or (λ body. opened_set g s.set body reason) (option_map (λ (x : Object F I). x.body) o) s.set) (sym (stored_is_object s store shows id))
    where
      go : (o : Option (StoredObject F I)) → option_map_or (λ x. opened_set g s.set (body_of_stored x.body) reason) o s.set
          ≡ option_map_or (λ body. opened_set g s.set body reason) (option_map (λ x. x.body) (option_map (object_of_stored id) o)) s.set
      go None = refl
      go (Some x) = refl

  pub set_after_close_is_machines : SetAfterCloseIsTheMachines K T F I
  set_after_close_is_machines g s store shows id process_left system_left =
      go (stored_at store id)
      ∙ ap (λ o. option_map_or (closed_set g s.set process_left system_left) (option_map (λ (x : Object F I). x.body) o) s.set) (sym (stored_is_object s store shows id))
    where
      go : (o : Option (StoredObject F I)) → option_map_or (λ x. closed_set g s.set process_left system_left (body_of_stored x.body)) o s.set
          ≡ option_map_or (closed_set g s.set process_left system_left) (option_map (λ x. x.body) (option_map (object_of_stored id) o)) s.set
      go None = refl
      go (Some x) = refl

  -- ---- an object that came is opened

  -- the others stay as they are
  others_unopened : (g : Procedures K T F I) (set : T) (reason : Reason) (id : ℕ) (os : List (Object F I)) → All (λ x. (x.id == id) ≡ false) os
      → map (opened_object g set id reason) os ≡ os
  others_unopened g set reason id [] other = refl
  others_unopened g set reason id (x ∷ os) other =
      ap (λ t. cond t (record x { body = opened_body g set x.body reason }) x ∷ map (opened_object g set id reason) os) (All-head (λ (y : Object F I). (y.id == id) ≡ false) x os other)
      ∙ ap (λ xs. x ∷ xs) (others_unopened g set reason id os (All-tail (λ (y : Object F I). (y.id == id) ≡ false) x os other))

  new_opened : (g : Procedures K T F I) (set : T) (reason : Reason) (os : List (Object F I)) (o : Object F I) → All (λ x. (x.id == o.id) ≡ false) os
      → map (opened_object g set o.id reason) (insert_object o os) ≡ insert_object (record o { body = opened_body g set o.body reason }) os
  new_opened g set reason os o free =
      in_order-map (λ x. x.id) (λ x. x.id) (opened_object g set o.id reason) (opened_object-id g set o.id reason) o os
      ∙ (λ i. insert_object (cond (eq-eqb o.id o.id refl i) (record o { body = opened_body g set o.body reason }) o) (others_unopened g set reason o.id os free i))

  pub new_object_opens : NewObjectOpens K T F I
  new_object_opens g store set id x reason free = (
    (opened_is_machines g (with_entry store id x) set id reason).0
        ∙ ap (map (opened_object g set id reason)) (new_object_in_order store id x)
        ∙ new_opened g set reason (objects_of store) (object_of_stored id x) (not_found (λ o. o.id == id) (objects_of store) (find_object store id ∙ ap (option_map (object_of_stored id)) free)),
    ap (option_and_then (λ (y : StoredObject F I). open_refusal_of g set (body_of_stored y.body) reason)) (stored_new store id x free),
    ap (λ (o : Option (StoredObject F I)). option_map_or (λ y. opened_set g set (body_of_stored y.body) reason) o set) (stored_new store id x free),
  )

-- what is told of the object that is stored is told of the object in the state
pub told_of_object : {F I : Type 0} (tells : Object F I → Bool) (store : Entries F I) (id : ℕ) (o : Option (StoredObject F I)) → o ≡ stored_at store id
    → option_map_or (λ x. tells (object_of_stored id x)) o false ≡ option_map_or tells (find (λ x. x.id == id) (objects_of store)) false
told_of_object {F} {I} tells store id o e = go o ∙ ap (λ p. option_map_or tells (option_map (object_of_stored id) p) false) e ∙ ap (λ p. option_map_or tells p false) (sym (find_object store id))
  where
    go : (p : Option (StoredObject F I)) → option_map_or (λ x. tells (object_of_stored id x)) p false ≡ option_map_or tells (option_map (object_of_stored id) p) false
    go None = refl
    go (Some x) = refl

-- so is its shadow
pub shadow_of_object : {F I : Type 0} (store : Entries F I) (id : ℕ) (o : Option (StoredObject F I)) → o ≡ stored_at store id
    → option_and_then (λ x. shadow_in (body_of_stored x.body)) o ≡ option_and_then (λ x. shadow_in x.body) (find (λ x. x.id == id) (objects_of store))
shadow_of_object {F} {I} store id o e =
    go o ∙ ap (λ p. option_and_then (λ (x : Object F I). shadow_in x.body) (option_map (object_of_stored id) p)) e
    ∙ ap (λ p. option_and_then (λ (x : Object F I). shadow_in x.body) p) (sym (find_object store id))
  where
    go : (p : Option (StoredObject F I)) → option_and_then (λ x. shadow_in (body_of_stored x.body)) p ≡ option_and_then (λ (x : Object F I). shadow_in x.body) (option_map (object_of_stored id) p)
    go None = refl
    go (Some x) = refl
