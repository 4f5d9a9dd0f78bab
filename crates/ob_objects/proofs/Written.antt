-- What a map's calls make of a store. Each lemma has the map's entries inside the store, the store as
-- it is seen, and the key that is the id.
use Rattle.std.proofs.Common.{◌≡◌, ◌≢◌, ◌∙◌, ℕ, ◌==◌, ◌&&◌, Bool, true, false, cond, not, List, [], ◌∷◌, find, Option, None, Some, option_map, Result, Ok, Err, OnErr, All, IsSome, refl, ap, sym, subst, arith, eqb-true}
use Rattle.std.proofs.lemmas.Bool.{ne_eqb}
use Rattle.std.proofs.lemmas.List.Elements.{All-head, All-tail, All-cons, All-filter, All-weaker}
use Rattle.std.proofs.lemmas.List.Kept.{AllPairs-filter}
use Rattle.std.proofs.lemmas.Map.{keys-set_value}
use Rattle.std.proofs.lemmas.Map.Entries.{All-lookup}
use Rattle.std.proofs.lemmas.Map.Steps.{set_value_same}
use Rattle.std.specs.BTreeMap.{is_at, insert_entry}
use Rattle.std.specs.List.{AllPairs, list_any}
use Rattle.std.specs.List.Sorted.{IsStrictlySortedBy}
use Rattle.std.specs.Map.{keys_of, lookup, remove_entry, set_value}
use Rattle.std.specs.Option.{IfSome, OnSome, option_and_then, option_map_or, unwrap_or}
use Rattle.std.specs.Ordering.{nat_cmp}
use Rattle.ob_model.specs.declared.terms.Reason.{Reason}
use Rattle.ob_model.specs.Procedures.{Procedures}
use Rattle.ob_model.specs.Grants.{open_refusal_of, opened_set}
use Rattle.ob_model.specs.Closing.{closed_set}
use Rattle.ob_dirs.specs.declared.entry.DirEntry.{DirEntry}
use Rattle.ob_dirs.specs.Dir.{IsDir, row_of}
use Rattle.ob_objects.specs.declared.named.EntryPlace.{EntryPlace}
use Rattle.ob_objects.specs.declared.object.StoredObject.{StoredObject}
use Rattle.ob_objects.specs.Rows.{by_stamp}
use Rattle.ob_objects.specs.Named.{place_of}
use Rattle.ob_objects.specs.Store.{Entries, IsStore, stored_at, directory_of, directory_at, entries_in, entries_at, body_of_stored, rows_of, place_at}
use Rattle.ob_objects.specs.Changes.{with_entry, changed_at, without_object, body_with_name, body_without_name, with_name, without_name, refusal_to_open, set_after_open, set_after_close}
use Rattle.ob_objects.specs.Kept.{KeepsPlaces}
use Rattle.ob_objects.proofs.Entries.{insert_entry-in_order, stored_free, directories_with_entry}
use Rattle.ob_objects.proofs.Bodies.{without_name_is_dir}
use Rattle.ob_objects.proofs.Shown.{same_rows, new_object_has_no_row, rows_go_with_directory, row_goes_with_name}
use Rattle.ob_objects.proofs.Stands.{place_goes, none_goes, places_go, place_comes, named_once_more}
use Rattle.ob_model.proofs.Finds.{find_none}
use Rattle.ob_model.proofs.Ids.{Differ-from_rising, lookup-id, remove_entry-id, changed-absent, set_value-id}

-- what an error leaves follows from what else it leaves, and from what holds in any case
pub on_error : {X E : Type 0} (P Q : Type 0) (r : Result X E) → (P → Q) → OnErr r P → OnErr r Q
on_error P Q (Ok x) follows h = h
on_error P Q (Err e) follows h = follows h

pub on_any_error : {X E : Type 0} (P : Type 0) (r : Result X E) → P → OnErr r P
on_any_error P (Ok x) h = tt
on_any_error P (Err e) h = h

-- what a reference is lent for, where there is one
pub on_some : {X P : Type 0} (r : Option X) (x : X) → r ≡ Some x → OnSome r P → P
on_some {X} {P} r x is = subst (λ (o : Option X). OnSome o P → P) (sym is) (λ h. h)

none_is_dir : IsDir []
none_is_dir i j d before within = absurd (omega (arith, within))

module _ {F I : Type 0} where
  -- what is found is what is stored
  pub found_stored : (inside now : Entries F I) (key id : ℕ) (found : Option (StoredObject F I))
      → found ≡ lookup (is_at (nat_cmp key)) inside → inside ≡ now → key ≡ id → found ≡ stored_at now id
  found_stored inside now key id found e same is_id = e ∙ lookup-id key inside ∙ ap (λ es. stored_at es key) same ∙ ap (stored_at now) is_id

  -- its entries are a directory's
  pub found_is_dir : (store : Entries F I) (key : ℕ) (x : StoredObject F I) → IsStore store → lookup (is_at (nat_cmp key)) store ≡ Some x → IsDir (entries_in x.body)
  found_is_dir store key x is found =
      subst (λ (o : Option (StoredObject F I)). IfSome o (λ y. IsDir (entries_in y.body))) found
      (All-lookup (λ (y : StoredObject F I). IsDir (entries_in y.body)) (is_at (nat_cmp key)) store is.directories)

  -- and they are those of the directory that is stored
  pub directory_found : (inside now : Entries F I) (key id : ℕ) (found : Option (StoredObject F I))
      → lookup (is_at (nat_cmp key)) inside ≡ found → inside ≡ now → key ≡ id → option_and_then (λ x. directory_of x.body) found ≡ directory_at now id
  directory_found inside now key id found is_found same is_id =
      ap (option_and_then (λ (x : StoredObject F I). directory_of x.body)) (found_stored inside now key id found (sym is_found) same is_id)

  pub entries_found : (inside now : Entries F I) (key id : ℕ) (found : Option (StoredObject F I))
      → lookup (is_at (nat_cmp key)) inside ≡ found → inside ≡ now → key ≡ id → unwrap_or (option_and_then (λ x. directory_of x.body) found) [] ≡ entries_at now id
  entries_found inside now key id found is_found same is_id =
      ap (λ (o : Option (List DirEntry)). unwrap_or o []) (directory_found inside now key id found is_found same is_id)

  -- the same places are kept
  pub places_stay : (store : Entries F I) (places left : ℕ → Option EntryPlace) → KeepsPlaces store places → ((id : ℕ) → left id ≡ places id) → KeepsPlaces store left
  places_stay store places left keeps same = record { is_store = keeps.is_store; places = λ id. same id ∙ keeps.places id }

  -- ---- an object comes, or goes

  pub inserted_put : (new inside now : Entries F I) (key id : ℕ) (x : StoredObject F I)
      → new ≡ insert_entry nat_cmp inside key x → inside ≡ now → key ≡ id → stored_at now id ≡ None → new ≡ with_entry now id x
  inserted_put new inside now key id x e same is_id free =
      e ∙ ap (λ es. insert_entry nat_cmp es key x) same ∙ ap (λ k. insert_entry nat_cmp now k x) is_id ∙ insert_entry-in_order id x now (stored_free now id free)

  -- what holds beside the places still does where the rows are as they were
  pub same_rows_keep : (new inside : Entries F I) (places : ℕ → Option EntryPlace) → KeepsPlaces inside places → rows_of new ≡ rows_of inside
      → IsStrictlySortedBy nat_cmp (keys_of new) → All (λ e. IsDir (entries_in e.1.body)) new → KeepsPlaces new places
  same_rows_keep new inside places keeps rows rising directories = record {
    is_store = record {
      rising = rising;
      directories = directories;
      named_once = subst (AllPairs (λ a b. a.object ≢ b.object)) (sym rows) keeps.is_store.named_once;
    };
    places = λ id. keeps.places id ∙ ap (λ rs. option_map place_of (find (λ r. r.object == id) rs)) (sym rows);
  }

  pub inserted_keeps : (new inside now : Entries F I) (places : ℕ → Option EntryPlace) (id : ℕ) (x : StoredObject F I)
      → KeepsPlaces inside places → inside ≡ now → new ≡ with_entry now id x → IsStrictlySortedBy nat_cmp (keys_of new) → entries_in x.body ≡ [] → KeepsPlaces new places
  inserted_keeps new inside now places id x keeps same put rising none =
      same_rows_keep new inside places keeps
      (ap rows_of put ∙ new_object_has_no_row now id x none ∙ ap rows_of (sym same)) rising
      (subst (All (λ e. IsDir (entries_in e.1.body))) (sym put)
      (directories_with_entry now id x (subst IsDir (sym none) none_is_dir) (subst (All (λ e. IsDir (entries_in e.1.body))) same keeps.is_store.directories)))

  pub removed_without : (new inside now : Entries F I) (key id : ℕ)
      → IsStore inside → new ≡ remove_entry (is_at (nat_cmp key)) inside → inside ≡ now → key ≡ id → new ≡ without_object now id
  removed_without new inside now key id is e same is_id =
      e ∙ remove_entry-id key inside (Differ-from_rising inside is.rising) ∙ ap (λ es. without_object es key) same ∙ ap (without_object now) is_id

  -- the places of the names that lay in it go with it
  pub removed_keeps : (new inside : Entries F I) (places left : ℕ → Option EntryPlace) (key : ℕ) (entries : List DirEntry)
      → KeepsPlaces inside places → new ≡ remove_entry (is_at (nat_cmp key)) inside → IsStrictlySortedBy nat_cmp (keys_of new) → entries ≡ entries_at inside key
      → ((id : ℕ) → left id ≡ cond (list_any (λ e. e.object == id) entries) None (places id))
      → KeepsPlaces new left
  removed_keeps new inside places left key entries keeps e rising are forgotten =
      let is : new ≡ without_object inside key = e ∙ remove_entry-id key inside (Differ-from_rising inside keeps.is_store.rising) in
      let rows = ap rows_of is ∙ rows_go_with_directory inside key in
      record {
        is_store = record {
          rising = rising;
          directories = subst (All (λ x. IsDir (entries_in x.1.body))) (sym is)
              (All-filter (λ x. not (x.0 == key)) (λ x. IsDir (entries_in x.1.body)) inside keeps.is_store.directories);
          named_once = subst (AllPairs (λ a b. a.object ≢ b.object)) (sym rows)
              (AllPairs-filter (λ a b. a.object ≢ b.object) (λ r. not (r.directory == key)) (rows_of inside) keeps.is_store.named_once);
        };
        places = λ id.
            forgotten id ∙ ap (λ es. cond (list_any (λ e. e.object == id) es) None (places id)) are
            ∙ ap (λ o. cond (list_any (λ e. e.object == id) (entries_at inside key)) None o) (keeps.places id)
            ∙ sym (places_go inside keeps.is_store key id) ∙ ap (λ s. place_at s id) (sym is);
      }

  -- ---- an object is changed

  -- none is there
  pub left_changed : (new inside now : Entries F I) (key id : ℕ) (change : StoredObject F I → StoredObject F I)
      → new ≡ inside → lookup (is_at (nat_cmp key)) inside ≡ None → inside ≡ now → key ≡ id → new ≡ changed_at id change now
  left_changed new inside now key id change e absent same is_id =
      e ∙ sym (changed-absent key change inside absent) ∙ ap (changed_at key change) same ∙ ap (λ k. changed_at k change now) is_id

  -- one is there, and its change is written
  pub written_changed : (new inside now : Entries F I) (key id : ℕ) (change : StoredObject F I → StoredObject F I) (x w : StoredObject F I)
      → IsStore inside → lookup (is_at (nat_cmp key)) inside ≡ Some x → new ≡ set_value (is_at (nat_cmp key)) inside w → w ≡ change x → inside ≡ now → key ≡ id
      → new ≡ changed_at id change now
  written_changed new inside now key id change x w is found e is_change same is_id =
      e ∙ ap (set_value (is_at (nat_cmp key)) inside) is_change ∙ set_value-id key change inside x (Differ-from_rising inside is.rising) found
      ∙ ap (changed_at key change) same ∙ ap (λ k. changed_at k change now) is_id

  -- one is there, and is written as it was
  pub written_same : (new inside now : Entries F I) (key : ℕ) (x w : StoredObject F I)
      → lookup (is_at (nat_cmp key)) inside ≡ Some x → new ≡ set_value (is_at (nat_cmp key)) inside w → w ≡ x → inside ≡ now → new ≡ now
  written_same new inside now key x w found e unchanged same =
      e ∙ ap (set_value (is_at (nat_cmp key)) inside) unchanged ∙ set_value_same (is_at (nat_cmp key)) inside x found ∙ same

  set_value-All : (P : StoredObject F I → Type 0) (key : ℕ) (w : StoredObject F I) (es : Entries F I)
      → All (λ e. P e.1) es → P w → All (λ e. P e.1) (set_value (is_at (nat_cmp key)) es w)
  set_value-All P key w [] all here = all
  set_value-All P key w (e ∷ es) all here =
      go (is_at (nat_cmp key) e.0) (set_value-All P key w es (All-tail (λ (x : ℕ × StoredObject F I). P x.1) e es all) here)
    where
      go : (t : Bool) → All (λ (x : ℕ × StoredObject F I). P x.1) (set_value (is_at (nat_cmp key)) es w)
          → All (λ (x : ℕ × StoredObject F I). P x.1) (cond t ((e.0, w) ∷ es) (e ∷ set_value (is_at (nat_cmp key)) es w))
      go true more = All-cons (λ (x : ℕ × StoredObject F I). P x.1) (e.0, w) es here (All-tail (λ (x : ℕ × StoredObject F I). P x.1) e es all)
      go false more = All-cons (λ (x : ℕ × StoredObject F I). P x.1) e (set_value (is_at (nat_cmp key)) es w) (All-head (λ (x : ℕ × StoredObject F I). P x.1) e es all) more

  written_rising : (new inside : Entries F I) (key : ℕ) (w : StoredObject F I)
      → IsStore inside → new ≡ set_value (is_at (nat_cmp key)) inside w → IsStrictlySortedBy nat_cmp (keys_of new)
  written_rising new inside key w is e =
      subst (λ es. IsStrictlySortedBy nat_cmp (keys_of es)) (sym e) (subst (IsStrictlySortedBy nat_cmp) (sym (keys-set_value (is_at (nat_cmp key)) inside w)) is.rising)

  written_directories : (new inside : Entries F I) (key : ℕ) (w : StoredObject F I)
      → IsStore inside → new ≡ set_value (is_at (nat_cmp key)) inside w → IsDir (entries_in w.body) → All (λ e. IsDir (entries_in e.1.body)) new
  written_directories new inside key w is e dir =
      subst (All (λ x. IsDir (entries_in x.1.body))) (sym e) (set_value-All (λ x. IsDir (entries_in x.body)) key w inside is.directories dir)

  -- a change that leaves the entries of the object
  pub changed_keeps : (new inside : Entries F I) (places : ℕ → Option EntryPlace) (key : ℕ) (change : StoredObject F I → StoredObject F I) (x w : StoredObject F I)
      → KeepsPlaces inside places → lookup (is_at (nat_cmp key)) inside ≡ Some x → new ≡ set_value (is_at (nat_cmp key)) inside w → w ≡ change x
      → ((y : StoredObject F I) → entries_in (change y).body ≡ entries_in y.body) → KeepsPlaces new places
  changed_keeps new inside places key change x w keeps found e is_change same =
      same_rows_keep new inside places keeps
      (ap rows_of (written_changed new inside inside key key change x w keeps.is_store found e is_change refl refl) ∙ ap by_stamp (same_rows inside key change same))
      (written_rising new inside key w keeps.is_store e)
      (written_directories new inside key w keeps.is_store e
      (subst (λ y. IsDir (entries_in y.body)) (sym is_change) (subst IsDir (sym (same x)) (found_is_dir inside key x keeps.is_store found))))

  -- an entry more
  pub named_keeps : (new inside : Entries F I) (places more : ℕ → Option EntryPlace) (key : ℕ) (entry : DirEntry) (x w : StoredObject F I)
      → KeepsPlaces inside places → lookup (is_at (nat_cmp key)) inside ≡ Some x → new ≡ set_value (is_at (nat_cmp key)) inside w
      → w ≡ record x { body = body_with_name entry x.body } → IsDir (entries_in w.body) → IsSome (directory_at inside key) → All (λ r. r.object ≢ entry.object) (rows_of inside)
      → ((id : ℕ) → more id ≡ cond (entry.object == id) (Some (place_of (row_of key entry))) (places id))
      → KeepsPlaces new more
  named_keeps new inside places more key entry x w keeps found e is_change dir there unnamed put =
      let is : new ≡ with_name inside key entry = written_changed new inside inside key key (λ y. record y { body = body_with_name entry y.body }) x w keeps.is_store found e is_change refl refl in
      record {
        is_store = record {
          rising = written_rising new inside key w keeps.is_store e;
          directories = written_directories new inside key w keeps.is_store e dir;
          named_once = subst (λ s. AllPairs (λ a b. a.object ≢ b.object) (rows_of s)) (sym is) (named_once_more inside keeps.is_store key entry there unnamed);
        };
        places = λ id.
            put id ∙ ap (λ o. cond (entry.object == id) (Some (place_of (row_of key entry))) o) (keeps.places id)
            ∙ sym (place_comes inside keeps.is_store key entry there unnamed id) ∙ ap (λ s. place_at s id) (sym is);
      }

  -- a place that came and went again, of an object without a name
  pub back_keeps : (new inside : Entries F I) (places more left : ℕ → Option EntryPlace) (key object : ℕ) (p : EntryPlace) (x w : StoredObject F I)
      → KeepsPlaces inside places → lookup (is_at (nat_cmp key)) inside ≡ Some x → new ≡ set_value (is_at (nat_cmp key)) inside w → w ≡ x
      → All (λ r. r.object ≢ object) (rows_of inside)
      → ((id : ℕ) → more id ≡ cond (object == id) (Some p) (places id))
      → ((id : ℕ) → left id ≡ cond (object == id) None (more id))
      → KeepsPlaces new left
  back_keeps new inside places more left key object p x w keeps found e unchanged unnamed put taken =
      let kept = changed_keeps new inside places key (λ y. y) x w keeps found e unchanged (λ y. refl) in
      record {
        is_store = kept.is_store;
        places = λ id. taken id ∙ ap (λ o. cond (object == id) None o) (put id) ∙ go (object == id) id refl (keeps.places id) ∙ kept.places id;
      }
    where
      go : (t : Bool) (id : ℕ) → (object == id) ≡ t → places id ≡ place_at inside id
          → cond t None (cond t (Some p) (places id)) ≡ places id
      go true id same at = sym (at ∙ ap (option_map place_of) (find_none (λ r. r.object == id) (rows_of inside)
          (All-weaker (λ r. r.object ≢ object) (λ r. (r.object == id) ≡ false) (λ r other. ne_eqb r.object id (λ equal. other (equal ∙ sym (eqb-true object id same)))) (rows_of inside) unnamed)))
      go false id apart at = refl

  -- an entry less
  unnamed_dir : (stamp : ℕ) (x w : StoredObject F I) → IsDir (entries_in x.body) → w ≡ record x { body = body_without_name stamp x.body } → IsDir (entries_in w.body)
  unnamed_dir stamp x w dir is_change = subst (λ y. IsDir (entries_in y.body)) (sym is_change) (without_name_is_dir stamp x.body dir)

  unnamed_once : (inside : Entries F I) (key stamp : ℕ) → IsStore inside → AllPairs (λ a b. a.object ≢ b.object) (rows_of (without_name inside key stamp))
  unnamed_once inside key stamp is =
      subst (AllPairs (λ a b. a.object ≢ b.object)) (sym (row_goes_with_name inside key stamp))
      (AllPairs-filter (λ a b. a.object ≢ b.object) (λ r. not ((r.directory == key) && (r.stamp == stamp))) (rows_of inside) is.named_once)

  pub unnamed_keeps : (new inside : Entries F I) (places left : ℕ → Option EntryPlace) (key stamp : ℕ) (entry : DirEntry) (x w : StoredObject F I)
      → KeepsPlaces inside places → lookup (is_at (nat_cmp key)) inside ≡ Some x → new ≡ set_value (is_at (nat_cmp key)) inside w
      → w ≡ record x { body = body_without_name stamp x.body } → Some entry ≡ find (λ e. e.stamp == stamp) (entries_in x.body)
      → ((id : ℕ) → left id ≡ cond (entry.object == id) None (places id))
      → KeepsPlaces new left
  unnamed_keeps new inside places left key stamp entry x w keeps found e is_change at taken =
      let is : new ≡ without_name inside key stamp = written_changed new inside inside key key (λ y. record y { body = body_without_name stamp y.body }) x w keeps.is_store found e is_change refl refl in
      let there = ap (find (λ (y : DirEntry). y.stamp == stamp)) (sym (entries_found inside inside key key (Some x) found refl refl)) ∙ sym at in
      record {
        is_store = record {
          rising = written_rising new inside key w keeps.is_store e;
          directories = written_directories new inside key w keeps.is_store e (unnamed_dir stamp x w (found_is_dir inside key x keeps.is_store found) is_change);
          named_once = subst (λ s. AllPairs (λ a b. a.object ≢ b.object) (rows_of s)) (sym is) (unnamed_once inside key stamp keeps.is_store);
        };
        places = λ id.
            taken id ∙ ap (λ o. cond (entry.object == id) None o) (keeps.places id)
            ∙ sym (place_goes inside keeps.is_store key stamp entry there id) ∙ ap (λ s. place_at s id) (sym is);
      }

  -- where no entry has the stamp
  pub unnamed_none : (new inside : Entries F I) (places : ℕ → Option EntryPlace) (key stamp : ℕ) (x w : StoredObject F I)
      → KeepsPlaces inside places → lookup (is_at (nat_cmp key)) inside ≡ Some x → new ≡ set_value (is_at (nat_cmp key)) inside w
      → w ≡ record x { body = body_without_name stamp x.body } → None ≡ find (λ e. e.stamp == stamp) (entries_in x.body) → KeepsPlaces new places
  unnamed_none new inside places key stamp x w keeps found e is_change none =
      same_rows_keep new inside places keeps
      (ap rows_of (written_changed new inside inside key key (λ y. record y { body = body_without_name stamp y.body }) x w keeps.is_store found e is_change refl refl)
      ∙ none_goes inside keeps.is_store key stamp (ap (find (λ (y : DirEntry). y.stamp == stamp)) (sym (entries_found inside inside key key (Some x) found refl refl)) ∙ sym none))
      (written_rising new inside key w keeps.is_store e)
      (written_directories new inside key w keeps.is_store e (unnamed_dir stamp x w (found_is_dir inside key x keeps.is_store found) is_change))

module _ {K T F I : Type 0} (g : Procedures K T F I) (inside now : Entries F I) (key id : ℕ) (found : Option (StoredObject F I))
    (is_found : lookup (is_at (nat_cmp key)) inside ≡ found) (same : inside ≡ now) (is_id : key ≡ id) where
  -- ---- what the set's procedures say of what was found, they say of what is stored

  pub refusal_found : (set : T) (reason : Reason) → option_and_then (λ x. open_refusal_of g set (body_of_stored x.body) reason) found ≡ refusal_to_open g now set id reason
  refusal_found set reason =
      ap (option_and_then (λ (x : StoredObject F I). open_refusal_of g set (body_of_stored x.body) reason)) (found_stored inside now key id found (sym is_found) same is_id)

  pub set_opened : (set : T) (reason : Reason) → option_map_or (λ x. opened_set g set (body_of_stored x.body) reason) found set ≡ set_after_open g now set id reason
  set_opened set reason =
      ap (λ (o : Option (StoredObject F I)). option_map_or (λ x. opened_set g set (body_of_stored x.body) reason) o set) (found_stored inside now key id found (sym is_found) same is_id)

  pub set_closed : (set : T) (process_left system_left : ℕ)
      → option_map_or (λ x. closed_set g set process_left system_left (body_of_stored x.body)) found set ≡ set_after_close g now set id process_left system_left
  set_closed set process_left system_left =
      ap (λ (o : Option (StoredObject F I)). option_map_or (λ x. closed_set g set process_left system_left (body_of_stored x.body)) o set)
      (found_stored inside now key id found (sym is_found) same is_id)
