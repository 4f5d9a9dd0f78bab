-- What changes of slots leave of what holds of a store.
use Rattle.std.proofs.Common.{◌≡◌, ◌≢◌, ◌∙◌, ℕ, ◌==◌, ◌<◌, cond, [], find, Option, None, Some, option_map, All, IsSome, refl, ap, sym, subst, arith}
use Rattle.std.proofs.lemmas.List.Elements.{All-nil}
use Rattle.std.specs.BTreeMap.{is_at, insert_entry}
use Rattle.std.specs.List.{list_any}
use Rattle.std.specs.List.Sorted.{IsStrictlySortedBy}
use Rattle.std.specs.Map.{lookup, remove_entry, set_value}
use Rattle.std.specs.Ordering.{nat_cmp}
use Rattle.ob_model.specs.Procedures.{Procedures}
use Rattle.ob_dirs.specs.declared.entry.DirEntry.{DirEntry}
use Rattle.ob_dirs.specs.Dir.{IsDir, row_of}
use Rattle.ob_objects.specs.declared.named.EntryPlace.{EntryPlace}
use Rattle.ob_objects.specs.declared.object.StoredObject.{StoredObject}
use Rattle.ob_objects.specs.declared.slots.Slot.{Slot}
use Rattle.ob_objects.specs.declared.slots.Slots.{Slots}
use Rattle.ob_objects.specs.Changes.{changed_at, body_with_name, body_without_name}
use Rattle.ob_objects.specs.Named.{place_of}
use Rattle.ob_objects.specs.Slots.{objects_in, object_in, place_in, KeepPlaces, AreFilled, StayFilled, IsWritten, IsSame}
use Rattle.ob_objects.specs.Store.{Entries, IsStore, entries_in, stored_at, directory_at, rows_of, place_at}
use Rattle.ob_objects.specs.Types.{Types, KeepsTypes, type_of_body}
use Rattle.ob_objects.specs.Kept.{KeepsPlaces, Keeps}
use Rattle.ob_objects.proofs.Bodies.{with_name_is_dir}
use Rattle.ob_objects.proofs.ById.{seen_finds, seen_rising, inserted_finds, removed_finds, absent_removed}
use Rattle.ob_objects.proofs.KeptTypes.{types_come, types_go, types_stay, with_name_type, without_name_type}
use Rattle.ob_objects.proofs.Written.{found_stored, found_is_dir, entries_found, places_stay, inserted_put, inserted_keeps, removed_keeps, left_changed, written_changed, written_same, changed_keeps, named_keeps, back_keeps, unnamed_keeps, unnamed_none}

module _ {F I : Type 0} where
  -- the object in a slot is found by its id
  pub object_found : (slots : Slots F I) (id : ℕ) (o : Option (StoredObject F I)) → object_in slots id ≡ o → lookup (is_at (nat_cmp id)) (objects_in slots) ≡ o
  object_found slots id o is = seen_finds (λ (slot : Slot F I). slot.object) id slots.map.entries ∙ is

  pub object_stored : (slots : Slots F I) (now : Entries F I) (id : ℕ) → objects_in slots ≡ now → object_in slots id ≡ stored_at now id
  object_stored slots now id same = found_stored (objects_in slots) now id id (object_in slots id) (sym (object_found slots id (object_in slots id) refl)) same refl

  -- what is written over an object is the change of the object that is stored, which is there or isn't
  pub slots_changed : (old new : Slots F I) (now : Entries F I) (id : ℕ) (change : StoredObject F I → StoredObject F I) (places : ℕ → Option EntryPlace) (x w : StoredObject F I)
      → KeepsPlaces (objects_in old) places → object_in old id ≡ Some x → IsWritten old id w new → w ≡ change x → objects_in old ≡ now → objects_in new ≡ changed_at id change now
  slots_changed old new now id change places x w keeps found written is_change same =
      written_changed (objects_in new) (objects_in old) now id id change x w keeps.is_store (object_found old id (Some x) found) written.objects is_change same refl

  -- told from slots of the same objects
  pub slots_changed_too : (first old new : Slots F I) (now : Entries F I) (id : ℕ) (change : StoredObject F I → StoredObject F I) (places : ℕ → Option EntryPlace) (x w : StoredObject F I)
      → KeepsPlaces (objects_in first) places → objects_in old ≡ objects_in first → object_in old id ≡ Some x → IsWritten old id w new → w ≡ change x → objects_in first ≡ now
      → objects_in new ≡ changed_at id change now
  slots_changed_too first old new now id change places x w keeps same found written is_change is_now =
      slots_changed old new now id change places x w (subst (λ es. KeepsPlaces es places) (sym same) keeps) found written is_change (same ∙ is_now)

  pub slots_left : (old new : Slots F I) (now : Entries F I) (id : ℕ) (change : StoredObject F I → StoredObject F I)
      → object_in old id ≡ None → IsSame old new → objects_in old ≡ now → objects_in new ≡ changed_at id change now
  slots_left old new now id change absent left same =
      left_changed (objects_in new) (objects_in old) now id id change left.objects (object_found old id None absent) same refl

  -- an object that is written as it was
  pub slots_same : (old new : Slots F I) (now : Entries F I) (id : ℕ) (x w : StoredObject F I) → object_in old id ≡ Some x → IsWritten old id w new → w ≡ x → objects_in old ≡ now
      → objects_in new ≡ now
  slots_same old new now id x w found written unchanged same = written_same (objects_in new) (objects_in old) now id x w (object_found old id (Some x) found) written.objects unchanged same

none_is_store : {F I : Type 0} → IsStore {F = F} {I = I} []
unfolding IsStrictlySortedBy
none_is_store = record {
  rising = tt;
  directories = All-nil (λ e. IsDir (entries_in e.1.body));
  named_once = λ i j d before within. absurd (omega (arith, within));
}

module _ {K T F I : Type 0} (g : Procedures K T F I) where
  -- where there is nothing
  pub none_keep : (slots : Slots F I) (types : Types K) → objects_in slots ≡ [] → ((id : ℕ) → place_in slots id ≡ None) → AreFilled slots → types ≡ [] → Keeps g slots types
  none_keep slots types objects places filled none = record {
    places = record {
      is_store = subst IsStore (sym objects) none_is_store;
      places = λ id. places id ∙ ap (λ es. place_at es id) (sym objects);
    };
    types = λ id. ap (lookup (is_at (nat_cmp id))) none ∙ ap (λ es. option_map (λ x. type_of_body g x.body) (stored_at es id)) (sym objects);
    filled = filled;
  }

  pub same_slots_keep : (old new : Slots F I) (types : Types K) → Keeps g old types → IsSame old new → Keeps g new types
  same_slots_keep old new types keeps same = record {
    places = places_stay (objects_in new) (place_in old) (place_in new) (subst (λ es. KeepsPlaces es (place_in old)) (sym same.objects) keeps.places) same.places;
    types = subst (λ es. KeepsTypes g es types) (sym same.objects) keeps.types;
    filled = same.filled keeps.filled;
  }

  -- an object is changed, and keeps its entries and its type
  pub changed_slots_keep : (old new : Slots F I) (types : Types K) (id : ℕ) (change : StoredObject F I → StoredObject F I) (x w : StoredObject F I)
      → Keeps g old types → object_in old id ≡ Some x → IsWritten old id w new → w ≡ change x
      → ((y : StoredObject F I) → entries_in (change y).body ≡ entries_in y.body) → ((y : StoredObject F I) → type_of_body g (change y).body ≡ type_of_body g y.body) → Keeps g new types
  changed_slots_keep old new types id change x w keeps found written is_change same_entries same_type =
      let at = object_found old id (Some x) found in
      record {
        places = places_stay (objects_in new) (place_in old) (place_in new)
            (changed_keeps (objects_in new) (objects_in old) (place_in old) id change x w keeps.places at written.objects is_change same_entries) written.places;
        types = types_stay g (objects_in new) (objects_in old) types id change x w keeps.types at written.objects is_change same_type;
        filled = written.filled keeps.filled;
      }

  -- ---- an object comes, or goes

  pub came_keep : (old new : Slots F I) (now : Entries F I) (types more : Types K) (id : ℕ) (x : StoredObject F I) → Keeps g old types → objects_in old ≡ now → stored_at now id ≡ None
      → objects_in new ≡ insert_entry nat_cmp (objects_in old) id x → KeepPlaces old new → StayFilled old new → entries_in x.body ≡ []
      → ((q : ℕ) → lookup (is_at (nat_cmp q)) more ≡ cond (is_at (nat_cmp id) q) (Some (type_of_body g x.body)) (lookup (is_at (nat_cmp q)) types)) → Keeps g new more
  came_keep old new now types more id x keeps same free put places filled none typed = record {
    places = places_stay (objects_in new) (place_in old) (place_in new)
        (inserted_keeps (objects_in new) (objects_in old) now (place_in old) id x keeps.places same (inserted_put (objects_in new) (objects_in old) now id id x put same refl free)
        (seen_rising (λ (slot : Slot F I). slot.object) new.map.entries) none) places;
    types = types_come g (objects_in old) (objects_in new) types more id x keeps.types typed (inserted_finds (objects_in old) (objects_in new) id x put);
    filled = filled keeps.filled;
  }

  -- nothing was there to go
  pub none_went_keep : (old new : Slots F I) (types : Types K) (id : ℕ) → Keeps g old types → object_in old id ≡ None
      → objects_in new ≡ remove_entry (is_at (nat_cmp id)) (objects_in old) → KeepPlaces old new → StayFilled old new → Keeps g new types
  none_went_keep old new types id keeps none gone places filled =
      same_slots_keep old new types keeps (record {
        objects = gone ∙ absent_removed id (objects_in old) (seen_rising (λ (slot : Slot F I). slot.object) old.map.entries) (object_found old id None none);
        places = places;
        filled = filled;
      })

  -- the places of the names that lay in it go with it
  pub went_keep : (old new left : Slots F I) (types less : Types K) (id : ℕ) (x : StoredObject F I) → Keeps g old types → object_in old id ≡ Some x
      → objects_in new ≡ remove_entry (is_at (nat_cmp id)) (objects_in old) → KeepPlaces old new → StayFilled old new
      → objects_in left ≡ objects_in new → ((q : ℕ) → place_in left q ≡ cond (list_any (λ e. e.object == q) (entries_in x.body)) None (place_in new q)) → StayFilled new left
      → ((q : ℕ) → lookup (is_at (nat_cmp q)) less ≡ cond (is_at (nat_cmp id) q) None (lookup (is_at (nat_cmp q)) types)) → Keeps g left less
  went_keep old new left types less id x keeps found gone places filled same forgotten left_filled taken =
      let at = object_found old id (Some x) found in
      record {
        places = removed_keeps (objects_in left) (objects_in old) (place_in old) (place_in left) id (entries_in x.body) keeps.places (same ∙ gone)
            (seen_rising (λ (slot : Slot F I). slot.object) left.map.entries) (entries_found (objects_in old) (objects_in old) id id (Some x) at refl refl)
            (λ q. forgotten q ∙ ap (cond (list_any (λ e. e.object == q) (entries_in x.body)) None) (places q));
        types = types_go g (objects_in old) (objects_in left) types less id keeps.types taken
            (removed_finds (objects_in old) (objects_in left) id (seen_rising (λ (slot : Slot F I). slot.object) old.map.entries) (same ∙ gone));
        filled = left_filled (filled keeps.filled);
      }

  -- ---- a name comes: its place was kept before

  pub named_slots_keep : (old kept new : Slots F I) (types : Types K) (d : ℕ) (entry : DirEntry) (x w : StoredObject F I) → Keeps g old types
      → objects_in kept ≡ objects_in old → ((id : ℕ) → place_in kept id ≡ cond (entry.object == id) (Some (place_of (row_of d entry))) (place_in old id)) → StayFilled old kept
      → object_in kept d ≡ Some x → IsWritten kept d w new → w ≡ record x { body = body_with_name entry x.body }
      → All (λ e. e.name ≢ entry.name) (entries_in x.body) → All (λ e. e.stamp < entry.stamp) (entries_in x.body)
      → IsSome (directory_at (objects_in old) d) → All (λ r. r.object ≢ entry.object) (rows_of (objects_in old)) → Keeps g new types
  named_slots_keep old kept new types d entry x w keeps same put kept_filled found written is_change free newest there unnamed =
      let at : lookup (is_at (nat_cmp d)) (objects_in old) ≡ Some x = ap (lookup (is_at (nat_cmp d))) (sym same) ∙ object_found kept d (Some x) found in
      let is : objects_in new ≡ set_value (is_at (nat_cmp d)) (objects_in old) w = written.objects ∙ ap (λ es. set_value (is_at (nat_cmp d)) es w) same in
      record {
        places = named_keeps (objects_in new) (objects_in old) (place_in old) (place_in new) d entry x w keeps.places at is is_change
            (subst (λ y. IsDir (entries_in y.body)) (sym is_change) (with_name_is_dir entry x.body (found_is_dir (objects_in old) d x keeps.places.is_store at) free newest)) there unnamed
            (λ id. written.places id ∙ put id);
        types = types_stay g (objects_in new) (objects_in old) types d (λ y. record y { body = body_with_name entry y.body }) x w keeps.types at is is_change (λ y. with_name_type g entry y.body);
        filled = written.filled (kept_filled keeps.filled);
      }

  -- and is forgotten where the name doesn't come
  pub back_slots_keep : (old kept new left : Slots F I) (types : Types K) (d object : ℕ) (p : EntryPlace) (x w : StoredObject F I) → Keeps g old types
      → objects_in kept ≡ objects_in old → ((id : ℕ) → place_in kept id ≡ cond (object == id) (Some p) (place_in old id)) → StayFilled old kept
      → object_in kept d ≡ Some x → IsWritten kept d w new → w ≡ x → All (λ r. r.object ≢ object) (rows_of (objects_in old))
      → objects_in left ≡ objects_in new → ((id : ℕ) → place_in left id ≡ cond (object == id) None (place_in new id)) → StayFilled new left → Keeps g left types
  back_slots_keep old kept new left types d object p x w keeps same put kept_filled found written unchanged unnamed left_same forgotten left_filled =
      let at : lookup (is_at (nat_cmp d)) (objects_in old) ≡ Some x = ap (lookup (is_at (nat_cmp d))) (sym same) ∙ object_found kept d (Some x) found in
      let is : objects_in new ≡ set_value (is_at (nat_cmp d)) (objects_in old) w = written.objects ∙ ap (λ es. set_value (is_at (nat_cmp d)) es w) same in
      record {
        places = subst (λ es. KeepsPlaces es (place_in left)) (sym left_same)
            (back_keeps (objects_in new) (objects_in old) (place_in old) (place_in new) (place_in left) d object p x w keeps.places at is unchanged unnamed
            (λ id. written.places id ∙ put id) forgotten);
        types = subst (λ es. KeepsTypes g es types) (sym left_same) (types_stay g (objects_in new) (objects_in old) types d (λ y. y) x w keeps.types at is unchanged (λ y. refl));
        filled = left_filled (written.filled (kept_filled keeps.filled));
      }

  -- ---- a name goes, and its place with it

  pub unnamed_slots_keep : (old new left : Slots F I) (types : Types K) (d stamp : ℕ) (entry : DirEntry) (x w : StoredObject F I) → Keeps g old types
      → object_in old d ≡ Some x → IsWritten old d w new → w ≡ record x { body = body_without_name stamp x.body } → Some entry ≡ find (λ e. e.stamp == stamp) (entries_in x.body)
      → objects_in left ≡ objects_in new → ((id : ℕ) → place_in left id ≡ cond (entry.object == id) None (place_in new id)) → StayFilled new left → Keeps g left types
  unnamed_slots_keep old new left types d stamp entry x w keeps found written is_change entry_at same forgotten filled =
      let at = object_found old d (Some x) found in
      record {
        places = subst (λ es. KeepsPlaces es (place_in left)) (sym same)
            (unnamed_keeps (objects_in new) (objects_in old) (place_in old) (place_in left) d stamp entry x w keeps.places at written.objects is_change entry_at
            (λ id. forgotten id ∙ ap (cond (entry.object == id) None) (written.places id)));
        types = subst (λ es. KeepsTypes g es types) (sym same)
            (types_stay g (objects_in new) (objects_in old) types d (λ y. record y { body = body_without_name stamp y.body }) x w keeps.types at written.objects is_change (λ y. without_name_type g stamp y.body));
        filled = filled (written.filled keeps.filled);
      }

  -- where no entry has the stamp
  pub no_entry_keep : (old new : Slots F I) (types : Types K) (d stamp : ℕ) (x w : StoredObject F I) → Keeps g old types
      → object_in old d ≡ Some x → IsWritten old d w new → w ≡ record x { body = body_without_name stamp x.body } → None ≡ find (λ e. e.stamp == stamp) (entries_in x.body) → Keeps g new types
  no_entry_keep old new types d stamp x w keeps found written is_change none =
      let at = object_found old d (Some x) found in
      record {
        places = places_stay (objects_in new) (place_in old) (place_in new)
            (unnamed_none (objects_in new) (objects_in old) (place_in old) d stamp x w keeps.places at written.objects is_change none) written.places;
        types = types_stay g (objects_in new) (objects_in old) types d (λ y. record y { body = body_without_name stamp y.body }) x w keeps.types at written.objects is_change (λ y. without_name_type g stamp y.body);
        filled = written.filled keeps.filled;
      }
