-- Slots that are clones show the same objects and places, and a store that shows the same is the same in the abstract state.
use Rattle.std.proofs.Common.{◌≡◌, ◌∙◌, ℕ, ◌<◌, ◌==◌, Bool, true, false, cond, nat_eq, List, [], ◌∷◌, ◌++◌, map, find, Option, None, Some, option_map, All, refl, ap, sym, subst}
use Rattle.std.proofs.lemmas.List.Elements.{All-map}
use Rattle.std.proofs.lemmas.List.{get_or-map, length-map}
use Rattle.std.specs.List.{AllPairs, AllZip}
use Rattle.std.specs.List.Sorted.{IsStrictlySortedBy}
use Rattle.std.specs.Map.{keys_of, lookup}
use Rattle.std.specs.Option.{option_and_then, option_map_or}
use Rattle.std.specs.Ordering.{nat_cmp}
use Rattle.ob_model.specs.declared.state.Body.{Body}
use Rattle.ob_model.specs.declared.state.Body.TheVariants as model
use Rattle.ob_model.specs.declared.state.Object.{Object}
use Rattle.ob_model.specs.declared.state.Row.{Row}
use Rattle.ob_model.specs.Procedures.{Procedures}
use Rattle.ob_dirs.specs.Dir.{IsDir, row_of}
use Rattle.ob_objects.specs.declared.object.StoredBody.{StoredBody}
use Rattle.ob_objects.specs.declared.object.StoredBody.TheVariants.{Directory, Link, Other}
use Rattle.ob_objects.specs.declared.object.StoredObject.{StoredObject}
use Rattle.ob_objects.specs.declared.slots.Slot.{Slot}
use Rattle.ob_objects.specs.declared.slots.Slots.{Slots}
use Rattle.ob_objects.specs.declared.types.StoredType.{StoredType}
use Rattle.ob_objects.specs.declared.types.StoredType.TheVariants as type
use Rattle.ob_objects.specs.ById.{by_id, parts}
use Rattle.ob_objects.specs.Copied.{Shown, shown, shown_slot, all_shown, ShowsTheSame}
use Rattle.ob_objects.specs.Kept.{Keeps}
use Rattle.ob_objects.specs.Named.{place_of}
use Rattle.ob_objects.specs.Rows.{by_stamp}
use Rattle.ob_objects.specs.Slots.{objects_in, object_in, KeepPlaces, StayFilled}
use Rattle.ob_objects.specs.Store.{Entries, IsStore, stored_at, entries_in, body_of_stored, object_of_stored, objects_of, rows_in_turn, rows_of}
use Rattle.ob_objects.specs.Types.{Types, KeepsTypes, type_of_body}
use Rattle.ob_objects.proofs.ById.{same_where_found, seen_finds, seen_rising}

-- ---- a function of each value

module _ {X Y : Type 0} (f : X → Y) where
  abbrev each : List (ℕ × X) → List (ℕ × Y)
  each es = map (λ e. (e.0, f e.1)) es

  lookup_each : (test : ℕ → Bool) (es : List (ℕ × X)) → option_map f (lookup test es) ≡ lookup test (each es)
  lookup_each test [] = refl
  lookup_each test (e ∷ es) = go (test e.0) (lookup_each test es)
    where
      go : (t : Bool) → option_map f (lookup test es) ≡ lookup test (each es) → option_map f (cond t (Some e.1) (lookup test es)) ≡ cond t (Some (f e.1)) (lookup test (each es))
      go true more = refl
      go false more = more

  find_each : (id : ℕ) (es : List (ℕ × X)) → option_map f (option_map (λ e. e.1) (find (λ e. e.0 == id) es)) ≡ option_map (λ e. e.1) (find (λ e. e.0 == id) (each es))
  find_each id [] = refl
  find_each id (e ∷ es) = go (e.0 == id) (find_each id es)
    where
      go : (t : Bool) → option_map f (option_map (λ e. e.1) (find (λ e. e.0 == id) es)) ≡ option_map (λ e. e.1) (find (λ e. e.0 == id) (each es))
          → option_map f (option_map (λ e. e.1) (cond t (Some e) (find (λ e. e.0 == id) es)))
          ≡ option_map (λ e. e.1) (cond t (Some (e.0, f e.1)) (find (λ e. e.0 == id) (each es)))
      go true more = refl
      go false more = more

  keys_each : (es : List (ℕ × X)) → keys_of (each es) ≡ keys_of es
  keys_each [] = refl
  keys_each (e ∷ es) = ap (λ ks. e.0 ∷ ks) (keys_each es)

  same_each : (es fs : List (ℕ × X)) → AllZip (λ p q. (q.0 ≡ p.0) × (f q.1 ≡ f p.1)) es fs → each fs ≡ each es
  same_each [] [] all = refl
  same_each [] (d ∷ fs) all = absurd all
  same_each (e ∷ es) [] all = absurd all
  same_each (e ∷ es) (d ∷ fs) all =
      ap (λ (k : ℕ). (k, f d.1) ∷ each fs) all.0.0 ∙ ap (λ (y : Y). (e.0, y) ∷ each fs) all.0.1 ∙ ap (λ l. (e.0, f e.1) ∷ l) (same_each es fs all.1)

  parts_each : {Z : Type 0} (part : Z → Option X) (es : List (ℕ × Z)) → each (parts part es) ≡ parts (λ z. option_map f (part z)) es
  parts_each part [] = refl
  parts_each part (e ∷ es) = go (part e.1) (parts_each part es)
    where
      go : (o : Option X) → each (parts part es) ≡ parts (λ z. option_map f (part z)) es
          → each (option_map_or (λ y. (e.0, y) ∷ parts part es) o (parts part es))
          ≡ option_map_or (λ y. (e.0, y) ∷ parts (λ z. option_map f (part z)) es) (option_map f o) (parts (λ z. option_map f (part z)) es)
      go None more = more
      go (Some x) more = ap (λ l. (e.0, f x) ∷ l) more

-- ---- slots

module _ {F I : Type 0} where
  abbrev SameSlots : Slots F I → Slots F I → Type 0
  SameSlots old new = AllZip (λ p q. (q.0 ≡ p.0) × (shown_slot q.1 ≡ shown_slot p.1)) old.map.entries new.map.entries

  abbrev slot_at : Slots F I → ℕ → Option (Slot F I)
  slot_at slots id = lookup (nat_eq id) slots.map.entries

  slot_shown : (old new : Slots F I) → SameSlots old new → (id : ℕ) → option_map shown_slot (slot_at new id) ≡ option_map shown_slot (slot_at old id)
  slot_shown old new same id =
      lookup_each shown_slot (nat_eq id) new.map.entries ∙ ap (lookup (nat_eq id)) (same_each shown_slot old.map.entries new.map.entries same)
      ∙ sym (lookup_each shown_slot (nat_eq id) old.map.entries)

  shown_place : (o : Option (Slot F I)) → option_and_then (λ slot. slot.place) o ≡ option_and_then (λ p. p.1) (option_map shown_slot o)
  shown_place None = refl
  shown_place (Some slot) = refl

  abbrev object_shown : Slot F I → Option (Shown F I)
  object_shown slot = option_map shown slot.object

  shown_object : (o : Option (Slot F I)) → option_and_then object_shown o ≡ option_and_then (λ p. p.0) (option_map shown_slot o)
  shown_object None = refl
  shown_object (Some slot) = refl

  shown_then : (o : Option (Slot F I)) → option_map shown (option_and_then (λ slot. slot.object) o) ≡ option_and_then object_shown o
  shown_then None = refl
  shown_then (Some slot) = refl

  pub places_cloned : (old new : Slots F I) → SameSlots old new → KeepPlaces old new
  places_cloned old new same id =
      shown_place (slot_at new id) ∙ ap (option_and_then (λ p. p.1)) (slot_shown old new same id) ∙ sym (shown_place (slot_at old id))

  objects_shown : (old new : Slots F I) → SameSlots old new → (id : ℕ) → option_and_then object_shown (slot_at new id) ≡ option_and_then object_shown (slot_at old id)
  objects_shown old new same id =
      shown_object (slot_at new id) ∙ ap (option_and_then (λ p. p.0)) (slot_shown old new same id) ∙ sym (shown_object (slot_at old id))

  pub objects_cloned : (old new : Slots F I) → SameSlots old new → ShowsTheSame (objects_in old) (objects_in new)
  objects_cloned old new same =
      parts_each shown (λ slot. slot.object) (by_id new.map.entries)
      ∙ same_where_found (parts object_shown (by_id new.map.entries)) (parts object_shown (by_id old.map.entries))
      (seen_rising object_shown new.map.entries) (seen_rising object_shown old.map.entries)
      (λ q. seen_finds object_shown q new.map.entries ∙ objects_shown old new same q ∙ sym (seen_finds object_shown q old.map.entries))
      ∙ sym (parts_each shown (λ slot. slot.object) (by_id old.map.entries))

  none_shown : (o : Option (StoredObject F I)) → option_map shown o ≡ None → o ≡ None
  none_shown None is = refl
  none_shown (Some x) is = cc

  no_slot : (o : Option (Slot F I)) → option_map shown_slot o ≡ None → o ≡ None
  no_slot None is = refl
  no_slot (Some slot) is = cc

  pub filled_cloned : (old new : Slots F I) → SameSlots old new → StayFilled old new
  filled_cloned old new same filled id no_object no_place =
      let object : object_in old id ≡ None =
      none_shown (object_in old id)
      (shown_then (slot_at old id) ∙ sym (objects_shown old new same id) ∙ sym (shown_then (slot_at new id)) ∙ ap (option_map shown) no_object)
      in
      no_slot (slot_at new id)
      (slot_shown old new same id ∙ ap (option_map shown_slot) (filled id object (sym (places_cloned old new same id) ∙ no_place)))

-- ---- a store

module _ {F I : Type 0} where
  abbrev object_of_shown : (ℕ × Shown F I) → Object F I
  object_of_shown e = record { id = e.0; body = e.1.body; permanent = e.1.permanent; exclusive = e.1.exclusive }

  rows_of_shown : List (ℕ × Shown F I) → List Row
  rows_of_shown [] = []
  rows_of_shown (e ∷ es) = map (row_of e.0) e.1.entries ++ rows_of_shown es

  objects_seen : (store : Entries F I) → objects_of store ≡ map object_of_shown (all_shown store)
  objects_seen [] = refl
  objects_seen (e ∷ store) = ap (λ l. object_of_stored e.0 e.1 ∷ l) (objects_seen store)

  rows_seen : (store : Entries F I) → rows_in_turn store ≡ rows_of_shown (all_shown store)
  unfolding rows_of_shown
  rows_seen [] = refl
  rows_seen (e ∷ store) = ap (λ rs. map (row_of e.0) (entries_in e.1.body) ++ rs) (rows_seen store)

  pub objects_copied : (store copy : Entries F I) → ShowsTheSame store copy → objects_of copy ≡ objects_of store
  objects_copied store copy same = objects_seen copy ∙ ap (map object_of_shown) same ∙ sym (objects_seen store)

  pub rows_copied : (store copy : Entries F I) → ShowsTheSame store copy → rows_of copy ≡ rows_of store
  rows_copied store copy same = ap by_stamp (rows_seen copy ∙ ap rows_of_shown same ∙ sym (rows_seen store))

  abbrev IsShownDir : (ℕ × Shown F I) → Type 0
  IsShownDir e = IsDir e.1.entries

  dirs_back : (store : Entries F I) → All IsShownDir (all_shown store) → All (λ e. IsDir (entries_in e.1.body)) store
  dirs_back store all k d below =
      let see : ℕ × StoredObject F I → ℕ × Shown F I = λ e. (e.0, shown e.1) in
      subst IsShownDir (get_or-map see store k d (see d) below) (all k (see d) (subst (λ n. k < n) (sym (length-map store see)) below))

  store_copied : (store copy : Entries F I) → ShowsTheSame store copy → IsStore store → IsStore copy
  store_copied store copy same is = record {
    rising = subst (IsStrictlySortedBy nat_cmp) (sym (keys_each shown store) ∙ ap keys_of (sym same) ∙ keys_each shown copy) is.rising;
    directories = dirs_back copy (subst (All IsShownDir) (sym same) (All-map IsShownDir (λ (e : ℕ × StoredObject F I). (e.0, shown e.1)) store is.directories));
    named_once = subst (AllPairs (λ a b. a.object ≡ b.object → ⊥)) (sym (rows_copied store copy same)) is.named_once;
  }

module _ {K T F I : Type 0} (g : Procedures K T F I) where
  type_of_shown : Body F I → StoredType K
  type_of_shown (model.Directory shadow) = type.Directory shadow
  type_of_shown (model.Link target) = type.Link
  type_of_shown (model.Other face inner) = type.Other (g.kind_of face)

  type_seen : (body : StoredBody F I) → type_of_body g body ≡ type_of_shown (body_of_stored body)
  unfolding type_of_shown
  type_seen (Directory entries shadow) = refl
  type_seen (Link target) = refl
  type_seen (Other face inner) = refl

  type_found : (o : Option (StoredObject F I)) → option_map (λ x. type_of_body g x.body) o ≡ option_map (λ s. type_of_shown s.body) (option_map shown o)
  type_found None = refl
  type_found (Some x) = ap Some (type_seen x.body)

  types_copied : (store copy : Entries F I) (types : Types K) → ShowsTheSame store copy → KeepsTypes g store types → KeepsTypes g copy types
  types_copied store copy types same keeps id =
      keeps id ∙ type_found (stored_at store id)
      ∙ ap (option_map (λ s. type_of_shown s.body))
      (find_each shown id store ∙ ap (λ es. option_map (λ e. e.1) (find (λ e. e.0 == id) es)) (sym same) ∙ sym (find_each shown id copy))
      ∙ sym (type_found (stored_at copy id))

  pub keeps_copied : (old new : Slots F I) (types : Types K) → Keeps g old types → ShowsTheSame (objects_in old) (objects_in new) → KeepPlaces old new → StayFilled old new → Keeps g new types
  keeps_copied old new types keeps same places filled = record {
    places = record {
      is_store = store_copied (objects_in old) (objects_in new) same keeps.places.is_store;
      places = λ id.
          places id ∙ keeps.places.places id
          ∙ ap (λ rows. option_map place_of (find (λ r. r.object == id) rows)) (sym (rows_copied (objects_in old) (objects_in new) same));
    };
    types = types_copied (objects_in old) (objects_in new) types same keeps.types;
    filled = filled keeps.filled;
  }
