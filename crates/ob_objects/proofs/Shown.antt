-- The objects and the rows of a store: those of each directory, and what changes of the store make of
-- them.
use Rattle.std.proofs.Common.{◌≡◌, ◌∙◌, ℕ, ◌<◌, ◌==◌, ◌&&◌, Bool, true, false, cond, not, nat_lt, List, [], ◌∷◌, ◌++◌, filter, find, map, Some, option_map, All, IsSome, refl, ap, sym, subst, eqb-true, append_assoc, append-nil, arith}
use Rattle.std.proofs.lemmas.Bool.{false≢true}
use Rattle.std.proofs.lemmas.List.Elements.{All-nil, All-cons, All-head, All-tail, filter-append}
use Rattle.std.specs.Option.{option_and_then, unwrap_or}
use Rattle.ob_model.specs.declared.state.Row.{Row}
use Rattle.ob_model.specs.declared.state.Object.{Object}
use Rattle.ob_model.specs.declared.terms.Reason.{Reason}
use Rattle.ob_model.specs.Procedures.{Procedures}
use Rattle.ob_model.specs.Grants.{opened_body}
use Rattle.ob_model.specs.Closing.{closed_body}
use Rattle.ob_dirs.specs.declared.entry.DirEntry.{DirEntry}
use Rattle.ob_dirs.specs.Dir.{IsDir, ComesBefore, AreEntries, row_of}
use Rattle.ob_dirs.proofs.Earliest.{first_comes_before, others_are_dir}
use Rattle.ob_dirs.proofs.Laws.{found-entries}
use Rattle.ob_dirs.proofs.Rows.{filter-map}
use Rattle.ob_model.proofs.Sorted.{sorted_by-Rises, sorted_by-same, filter-sorted_by, sorted_by-All, sorted_by-last}
use Rattle.ob_objects.specs.declared.object.StoredBody.{StoredBody}
use Rattle.ob_objects.specs.declared.object.StoredBody.TheVariants.{Directory, Link, Other}
use Rattle.ob_objects.specs.declared.object.StoredObject.{StoredObject}
use Rattle.ob_objects.specs.Rows.{stamp_of, by_stamp}
use Rattle.ob_objects.specs.Store.{Entries, stored_at, directory_of, directory_at, entries_in, entries_at, body_of_stored, object_of_stored, objects_of, rows_in_turn, rows_of}
use Rattle.ob_objects.specs.Changes.{with_entry, changed_at, without_object, body_with_name, body_without_name, with_name, without_name, stored_opened, stored_closed}
use Rattle.ob_objects.specs.Laws.{StoredIsTheObject, StoreFindsWhatTheStateFinds, OpenedIsTheMachines, ClosedIsTheMachines, RowsAreByStamp, RowsAreTheEntries, NewObjectHasNoRow, RowsGoWithTheirDirectory, NewNameIsTheLastRow, RowGoesWithItsName, NamesChangeNoObject, PermanenceIsTheObjects}
use Rattle.ob_objects.proofs.ByStamp.{Rises, ComesFirst, AreByStamp-from_Rises}
use Rattle.ob_model.proofs.Ids.{Differ, Differ-from_rising, changed, changed-none}

-- ---- the rows of one directory

-- the rows of a directory's entries rise
pub entry_rows-Rises : (d : ℕ) (es : List DirEntry) → IsDir es → Rises (map (row_of d) es)
entry_rows-Rises d [] is = tt
entry_rows-Rises d (e ∷ es) is = (behind es (first_comes_before e es is), entry_rows-Rises d es (others_are_dir e es is))
  where
    behind : (xs : List DirEntry) → All (ComesBefore e) xs → All (ComesFirst (row_of d e)) (map (row_of d) xs)
    behind [] all = All-nil (ComesFirst (row_of d e))
    behind (x ∷ xs) all =
        All-cons (ComesFirst (row_of d e)) (row_of d x) (map (row_of d) xs) (omega (arith, (All-head (ComesBefore e) x xs all).0)) (behind xs (All-tail (ComesBefore e) x xs all))

-- they stand in that directory, and in no other
filter_entry_rows : (test : ℕ → Bool) (d : ℕ) (es : List DirEntry) → filter (λ r. test r.directory) (map (row_of d) es) ≡ cond (test d) (map (row_of d) es) []
filter_entry_rows test d [] = go (test d)
  where
    go : (t : Bool) → [] ≡ cond t (map (row_of d) []) []
    go true = refl
    go false = refl
filter_entry_rows test d (e ∷ es) = go (test d) (filter_entry_rows test d es)
  where
    go : (t : Bool) → filter (λ r. test r.directory) (map (row_of d) es) ≡ cond t (map (row_of d) es) []
        → cond t (row_of d e ∷ filter (λ r. test r.directory) (map (row_of d) es)) (filter (λ r. test r.directory) (map (row_of d) es)) ≡ cond t (row_of d e ∷ map (row_of d) es) []
    go true more = ap (λ rs. row_of d e ∷ rs) more
    go false more = more

module _ {F I : Type 0} where
  -- ---- the rows of each directory

  no_rows : (store : Entries F I) (d : ℕ) → All (λ e. (e.0 == d) ≡ false) store → filter (λ r. r.directory == d) (rows_in_turn store) ≡ []
  no_rows [] d none = refl
  no_rows (e ∷ store) d none =
      filter-append (λ r. r.directory == d) (map (row_of e.0) (entries_in e.1.body)) (rows_in_turn store)
      ∙ ap (λ rs. rs ++ filter (λ r. r.directory == d) (rows_in_turn store)) (filter_entry_rows (λ k. k == d) e.0 (entries_in e.1.body)
      ∙ ap (λ t. cond t (map (row_of e.0) (entries_in e.1.body)) []) (All-head (λ (x : ℕ × StoredObject F I). (x.0 == d) ≡ false) e store none))
      ∙ no_rows store d (All-tail (λ (x : ℕ × StoredObject F I). (x.0 == d) ≡ false) e store none)

  rows_in : (store : Entries F I) (d : ℕ) → Differ store → filter (λ r. r.directory == d) (rows_in_turn store) ≡ map (row_of d) (entries_at store d)
  rows_in [] d differ = refl
  rows_in (e ∷ store) d differ =
      filter-append (λ r. r.directory == d) (map (row_of e.0) (entries_in e.1.body)) (rows_in_turn store)
      ∙ ap (λ rs. rs ++ filter (λ r. r.directory == d) (rows_in_turn store)) (filter_entry_rows (λ k. k == d) e.0 (entries_in e.1.body))
      ∙ go (e.0 == d) refl (rows_in store d differ.1)
    where
      go : (t : Bool) → (e.0 == d) ≡ t → filter (λ r. r.directory == d) (rows_in_turn store) ≡ map (row_of d) (entries_at store d)
          → cond t (map (row_of e.0) (entries_in e.1.body)) [] ++ filter (λ r. r.directory == d) (rows_in_turn store)
          ≡ map (row_of d) (unwrap_or (option_and_then (λ x. directory_of x.body) (option_map (λ x. x.1) (cond t (Some e) (find (λ x. x.0 == d) store)))) [])
      go true here more =
          ap (λ rs. map (row_of e.0) (entries_in e.1.body) ++ rs) (no_rows store d (subst (λ k. All (λ x. (x.0 == k) ≡ false) store) (eqb-true e.0 d here) differ.0))
          ∙ append-nil (map (row_of e.0) (entries_in e.1.body)) ∙ ap (λ k. map (row_of k) (entries_in e.1.body)) (eqb-true e.0 d here)
      go false there more = more

  -- a directory's entries are a directory's
  pub entries_at-is_dir : (store : Entries F I) (d : ℕ) → All (λ e. IsDir (entries_in e.1.body)) store → IsDir (entries_at store d)
  entries_at-is_dir [] d all = λ i j x before within. absurd (omega (arith, within))
  entries_at-is_dir (e ∷ store) d all =
      go (e.0 == d) (entries_at-is_dir store d (All-tail (λ (x : ℕ × StoredObject F I). IsDir (entries_in x.1.body)) e store all))
    where
      go : (t : Bool) → IsDir (entries_at store d)
          → IsDir (unwrap_or (option_and_then (λ x. directory_of x.body) (option_map (λ x. x.1) (cond t (Some e) (find (λ x. x.0 == d) store)))) [])
      go true more = All-head (λ (x : ℕ × StoredObject F I). IsDir (entries_in x.1.body)) e store all
      go false more = more

  pub rows_are_entries : RowsAreTheEntries F I
  rows_are_entries store is d =
      filter-sorted_by stamp_of (λ r. r.directory == d) (rows_in_turn store)
      ∙ ap by_stamp (rows_in store d (Differ-from_rising store is.rising))
      ∙ sorted_by-same stamp_of (map (row_of d) (entries_at store d)) (entry_rows-Rises d (entries_at store d) (entries_at-is_dir store d is.directories))

  pub rows_by_stamp : RowsAreByStamp F I
  rows_by_stamp store = AreByStamp-from_Rises (rows_of store) (sorted_by-Rises stamp_of (rows_in_turn store))

  -- ---- objects come and go

  pub rows_in_turn-append : (xs ys : Entries F I) → rows_in_turn (xs ++ ys) ≡ rows_in_turn xs ++ rows_in_turn ys
  rows_in_turn-append [] ys = refl
  rows_in_turn-append (x ∷ xs) ys =
      ap (λ rs. map (row_of x.0) (entries_in x.1.body) ++ rs) (rows_in_turn-append xs ys)
      ∙ sym (append_assoc (map (row_of x.0) (entries_in x.1.body)) (rows_in_turn xs) (rows_in_turn ys))

  no_row_more : (store : Entries F I) (id : ℕ) (x : StoredObject F I) → entries_in x.body ≡ [] → rows_in_turn (with_entry store id x) ≡ rows_in_turn store
  no_row_more [] id x none = ap (λ es. map (row_of id) es ++ []) none
  no_row_more (e ∷ store) id x none = go (nat_lt id e.0) (no_row_more store id x none)
    where
      go : (t : Bool) → rows_in_turn (with_entry store id x) ≡ rows_in_turn store
          → rows_in_turn (cond t ((id, x) ∷ e ∷ store) (e ∷ with_entry store id x)) ≡ rows_in_turn (e ∷ store)
      go true more = ap (λ es. map (row_of id) es ++ rows_in_turn (e ∷ store)) none
      go false more = ap (λ rs. map (row_of e.0) (entries_in e.1.body) ++ rs) more

  pub new_object_has_no_row : NewObjectHasNoRow F I
  new_object_has_no_row store id x none = ap by_stamp (no_row_more store id x none)

  without_object-rows : (store : Entries F I) (id : ℕ) → rows_in_turn (without_object store id) ≡ filter (λ r. not (r.directory == id)) (rows_in_turn store)
  without_object-rows [] id = refl
  without_object-rows (e ∷ store) id =
      go (e.0 == id) (without_object-rows store id)
      ∙ sym (filter-append (λ r. not (r.directory == id)) (map (row_of e.0) (entries_in e.1.body)) (rows_in_turn store)
      ∙ ap (λ rs. rs ++ filter (λ r. not (r.directory == id)) (rows_in_turn store)) (filter_entry_rows (λ k. not (k == id)) e.0 (entries_in e.1.body)))
    where
      go : (t : Bool) → rows_in_turn (without_object store id) ≡ filter (λ r. not (r.directory == id)) (rows_in_turn store)
          → rows_in_turn (cond (not t) (e ∷ without_object store id) (without_object store id))
          ≡ cond (not t) (map (row_of e.0) (entries_in e.1.body)) [] ++ filter (λ r. not (r.directory == id)) (rows_in_turn store)
      go true more = more
      go false more = ap (λ rs. map (row_of e.0) (entries_in e.1.body) ++ rs) more

  pub rows_go_with_directory : RowsGoWithTheirDirectory F I
  rows_go_with_directory store id = ap by_stamp (without_object-rows store id) ∙ sym (filter-sorted_by stamp_of (λ r. not (r.directory == id)) (rows_in_turn store))

  -- ---- objects change

  -- a change that leaves the entries that lie in an object leaves the rows
  pub same_rows : (store : Entries F I) (id : ℕ) (change : StoredObject F I → StoredObject F I)
      → ((x : StoredObject F I) → entries_in (change x).body ≡ entries_in x.body) → rows_in_turn (changed_at id change store) ≡ rows_in_turn store
  same_rows [] id change same = refl
  same_rows (e ∷ store) id change same = go (e.0 == id) (same_rows store id change same)
    where
      go : (t : Bool) → rows_in_turn (changed_at id change store) ≡ rows_in_turn store
          → rows_in_turn (cond t (e.0, change e.1) e ∷ changed_at id change store) ≡ map (row_of e.0) (entries_in e.1.body) ++ rows_in_turn store
      go true more = ap (λ es. map (row_of e.0) es ++ rows_in_turn (changed_at id change store)) (same e.1) ∙ ap (λ rs. map (row_of e.0) (entries_in e.1.body) ++ rs) more
      go false more = ap (λ rs. map (row_of e.0) (entries_in e.1.body) ++ rs) more

  -- and what it makes of an object it makes of the object in the state
  same_objects : (store : Entries F I) (id : ℕ) (change : StoredObject F I → StoredObject F I) (machine : Object F I → Object F I)
      → ((x : StoredObject F I) → object_of_stored id (change x) ≡ machine (object_of_stored id x))
      → objects_of (changed_at id change store) ≡ map (λ o. cond (o.id == id) (machine o) o) (objects_of store)
  same_objects [] id change machine same = refl
  same_objects (e ∷ store) id change machine same = go (e.0 == id) refl (same_objects store id change machine same)
    where
      go : (t : Bool) → (e.0 == id) ≡ t → objects_of (changed_at id change store) ≡ map (λ o. cond (o.id == id) (machine o) o) (objects_of store)
          → objects_of (cond t (e.0, change e.1) e ∷ changed_at id change store)
          ≡ cond t (machine (object_of_stored e.0 e.1)) (object_of_stored e.0 e.1) ∷ map (λ o. cond (o.id == id) (machine o) o) (objects_of store)
      go true here more =
          ap (λ o. o ∷ objects_of (changed_at id change store)) (subst (λ k. object_of_stored k (change e.1) ≡ machine (object_of_stored k e.1)) (sym (eqb-true e.0 id here)) (same e.1))
          ∙ ap (λ os. machine (object_of_stored e.0 e.1) ∷ os) more
      go false there more = ap (λ os. object_of_stored e.0 e.1 ∷ os) more

  pub permanence_is_objects : PermanenceIsTheObjects F I
  permanence_is_objects store id permanent = (
    same_objects store id (λ x. record x { permanent = permanent }) (λ o. record o { permanent = permanent }) (λ x. refl),
    ap by_stamp (same_rows store id (λ x. record x { permanent = permanent }) (λ x. refl)),
  )

  -- ---- names come and go

  named_same_body : (entry : DirEntry) (body : StoredBody F I) → body_of_stored (body_with_name entry body) ≡ body_of_stored body
  named_same_body entry (Directory entries shadow) = refl
  named_same_body entry (Link target) = refl
  named_same_body entry (Other face inner) = refl

  unnamed_same_body : (stamp : ℕ) (body : StoredBody F I) → body_of_stored (body_without_name stamp body) ≡ body_of_stored body
  unnamed_same_body stamp (Directory entries shadow) = refl
  unnamed_same_body stamp (Link target) = refl
  unnamed_same_body stamp (Other face inner) = refl

  -- a change that leaves what an object is in the state leaves the objects
  left_objects : (store : Entries F I) (id : ℕ) (change : StoredObject F I → StoredObject F I)
      → ((k : ℕ) (x : StoredObject F I) → object_of_stored k (change x) ≡ object_of_stored k x) → objects_of (changed_at id change store) ≡ objects_of store
  left_objects [] id change same = refl
  left_objects (e ∷ store) id change same = go (e.0 == id) (left_objects store id change same)
    where
      go : (t : Bool) → objects_of (changed_at id change store) ≡ objects_of store
          → objects_of (cond t (e.0, change e.1) e ∷ changed_at id change store) ≡ object_of_stored e.0 e.1 ∷ objects_of store
      go true more = ap (λ o. o ∷ objects_of (changed_at id change store)) (same e.0 e.1) ∙ ap (λ os. object_of_stored e.0 e.1 ∷ os) more
      go false more = ap (λ os. object_of_stored e.0 e.1 ∷ os) more

  pub names_change_no_object : NamesChangeNoObject F I
  names_change_no_object store d entry stamp = (
    left_objects store d (λ x. record x { body = body_with_name entry x.body })
        (λ k x. ap (λ body. record { id = k; body = body; permanent = x.permanent; exclusive = x.exclusive }) (named_same_body entry x.body)),
    left_objects store d (λ x. record x { body = body_without_name stamp x.body })
        (λ k x. ap (λ body. record { id = k; body = body; permanent = x.permanent; exclusive = x.exclusive }) (unnamed_same_body stamp x.body)),
  )

-- what holds of a list holds of both its parts
pub all_parts : (P : Row → Type 0) (xs ys : List Row) → All P (xs ++ ys) → All P xs × All P ys
all_parts P [] ys all = (All-nil P, all)
all_parts P (x ∷ xs) ys all =
    let more = all_parts P xs ys (All-tail P x (xs ++ ys) all) in
    (All-cons P x xs (All-head P x (xs ++ ys) all) more.0, more.1)

-- a filter that keeps all
all_stay : (es : List DirEntry) → filter (λ e. true) es ≡ es
all_stay [] = refl
all_stay (e ∷ es) = ap (λ xs. e ∷ xs) (all_stay es)

rows-push : (d : ℕ) (es : List DirEntry) (entry : DirEntry) (rows : List Row) → map (row_of d) (es ++ entry ∷ []) ++ rows ≡ map (row_of d) es ++ row_of d entry ∷ rows
rows-push d [] entry rows = refl
rows-push d (e ∷ es) entry rows = ap (λ rs. row_of d e ∷ rs) (rows-push d es entry rows)

module _ {F I : Type 0} where
  -- ---- a name more

  pub named_entries : (entry : DirEntry) (body : StoredBody F I) → IsSome (directory_of body) → entries_in (body_with_name entry body) ≡ entries_in body ++ entry ∷ []
  named_entries entry (Directory entries shadow) there = refl
  named_entries entry (Link target) there = absurd (false≢true there)
  named_entries entry (Other face inner) there = absurd (false≢true there)

  -- the rows before the new one, and those behind it
  pub record Splits (store : Entries F I) (d : ℕ) (entry : DirEntry) : Type 0 where
    pub before : List Row
    pub behind : List Row
    pub without : rows_in_turn store ≡ before ++ behind
    pub together : rows_in_turn (with_name store d entry) ≡ before ++ row_of d entry ∷ behind

  pub named_splits : (store : Entries F I) (d : ℕ) (entry : DirEntry) → Differ store → IsSome (directory_at store d) → Splits store d entry
  named_splits [] d entry differ there = absurd (false≢true there)
  named_splits (e ∷ store) d entry differ there = go (e.0 == d) refl there (named_splits store d entry differ.1)
    where
      named : StoredObject F I → StoredObject F I
      named x = record x { body = body_with_name entry x.body }

      here_splits : (e.0 == d) ≡ true → IsSome (directory_of e.1.body) → Splits (e ∷ store) d entry
      here_splits here there = record {
        before = map (row_of e.0) (entries_in e.1.body);
        behind = rows_in_turn store;
        without = refl;
        together =
            ap (λ t. rows_in_turn (cond t (e.0, named e.1) e ∷ changed d named store)) here
            ∙ ap (λ es. map (row_of e.0) es ++ rows_in_turn (changed d named store)) (named_entries entry e.1.body there)
            ∙ ap (λ xs. map (row_of e.0) (entries_in e.1.body ++ entry ∷ []) ++ rows_in_turn xs)
            (changed-none d named store (subst (λ k. All (λ x. (x.0 == k) ≡ false) store) (eqb-true e.0 d here) differ.0))
            ∙ rows-push e.0 (entries_in e.1.body) entry (rows_in_turn store)
            ∙ ap (λ k. map (row_of e.0) (entries_in e.1.body) ++ row_of k entry ∷ rows_in_turn store) (eqb-true e.0 d here);
      }

      there_splits : (e.0 == d) ≡ false → Splits store d entry → Splits (e ∷ store) d entry
      there_splits there more = record {
        before = map (row_of e.0) (entries_in e.1.body) ++ more.before;
        behind = more.behind;
        without = ap (λ rs. map (row_of e.0) (entries_in e.1.body) ++ rs) more.without ∙ sym (append_assoc (map (row_of e.0) (entries_in e.1.body)) more.before more.behind);
        together =
            ap (λ t. rows_in_turn (cond t (e.0, named e.1) e ∷ changed d named store)) there
            ∙ ap (λ rs. map (row_of e.0) (entries_in e.1.body) ++ rs) more.together
            ∙ sym (append_assoc (map (row_of e.0) (entries_in e.1.body)) more.before (row_of d entry ∷ more.behind));
      }

      go : (t : Bool) → (e.0 == d) ≡ t → IsSome (option_and_then (λ x. directory_of x.body) (option_map (λ x. x.1) (cond t (Some e) (find (λ x. x.0 == d) store))))
          → (IsSome (directory_at store d) → Splits store d entry) → Splits (e ∷ store) d entry
      go true here there more = here_splits here there
      go false apart there more = there_splits apart (more there)

  pub new_name_is_last : NewNameIsTheLastRow F I
  new_name_is_last store d entry is there newest =
      let parts = named_splits store d entry (Differ-from_rising store is.rising) there in
      let below = all_parts (λ r. r.stamp < entry.stamp) parts.before parts.behind
      (subst (All (λ r. r.stamp < entry.stamp)) parts.without (sorted_by-All stamp_of (λ r. r.stamp < entry.stamp) (rows_in_turn store) newest)) in
      ap by_stamp parts.together ∙ sorted_by-last stamp_of (row_of d entry) parts.before parts.behind below.0 below.1
      ∙ ap (λ rs. by_stamp rs ++ row_of d entry ∷ []) (sym parts.without)

  -- ---- a name less

  pub unnamed_entries : (stamp : ℕ) (body : StoredBody F I) → entries_in (body_without_name stamp body) ≡ filter (λ e. not (e.stamp == stamp)) (entries_in body)
  unnamed_entries stamp (Directory entries shadow) = refl
  unnamed_entries stamp (Link target) = refl
  unnamed_entries stamp (Other face inner) = refl

  without_name-rows : (store : Entries F I) (d stamp : ℕ)
      → rows_in_turn (without_name store d stamp) ≡ filter (λ r. not ((r.directory == d) && (r.stamp == stamp))) (rows_in_turn store)
  without_name-rows [] d stamp = refl
  without_name-rows (e ∷ store) d stamp =
      go (e.0 == d) (without_name-rows store d stamp)
      ∙ sym (filter-append stays (map (row_of e.0) (entries_in e.1.body)) (rows_in_turn store)
      ∙ ap (λ rs. rs ++ filter stays (rows_in_turn store)) (filter-map (row_of e.0) stays (entries_in e.1.body)))
    where
      stays : Row → Bool
      stays r = not ((r.directory == d) && (r.stamp == stamp))

      unnamed : StoredObject F I → StoredObject F I
      unnamed x = record x { body = body_without_name stamp x.body }

      go : (t : Bool) → rows_in_turn (without_name store d stamp) ≡ filter stays (rows_in_turn store)
          → rows_in_turn (cond t (e.0, unnamed e.1) e ∷ without_name store d stamp)
          ≡ map (row_of e.0) (filter (λ x. not (t && (x.stamp == stamp))) (entries_in e.1.body)) ++ filter stays (rows_in_turn store)
      go true more =
          ap (λ es. map (row_of e.0) es ++ rows_in_turn (without_name store d stamp)) (unnamed_entries stamp e.1.body)
          ∙ ap (λ rs. map (row_of e.0) (filter (λ x. not (x.stamp == stamp)) (entries_in e.1.body)) ++ rs) more
      go false more =
          ap (λ es. map (row_of e.0) es ++ rows_in_turn (without_name store d stamp)) (sym (all_stay (entries_in e.1.body)))
          ∙ ap (λ rs. map (row_of e.0) (filter (λ x. true) (entries_in e.1.body)) ++ rs) more

  pub row_goes_with_name : RowGoesWithItsName F I
  row_goes_with_name store d stamp = ap by_stamp (without_name-rows store d stamp) ∙ sym (filter-sorted_by stamp_of (λ r. not ((r.directory == d) && (r.stamp == stamp))) (rows_in_turn store))

-- ---- the state

module _ {F I : Type 0} where
  pub find_object : (store : Entries F I) (id : ℕ) → find (λ o. o.id == id) (objects_of store) ≡ option_map (object_of_stored id) (stored_at store id)
  find_object [] id = refl
  find_object (e ∷ store) id = go (e.0 == id) refl (find_object store id)
    where
      go : (t : Bool) → (e.0 == id) ≡ t → find (λ o. o.id == id) (objects_of store) ≡ option_map (object_of_stored id) (stored_at store id)
          → cond t (Some (object_of_stored e.0 e.1)) (find (λ o. o.id == id) (objects_of store))
          ≡ option_map (object_of_stored id) (option_map (λ x. x.1) (cond t (Some e) (find (λ x. x.0 == id) store)))
      go true here more = ap (λ k. Some (object_of_stored k e.1)) (eqb-true e.0 id here)
      go false there more = more

module _ {K T F I : Type 0} where
  pub stored_is_object : StoredIsTheObject K T F I
  stored_is_object s store shows id = ap (find (λ o. o.id == id)) shows.objects ∙ find_object store id

  pub store_finds : StoreFindsWhatTheStateFinds K T F I
  store_finds s store is shows d component fold =
      found-entries s d (entries_at store d) (subst (λ rows. AreEntries rows d (entries_at store d)) (sym shows.rows) (rows_are_entries store is d)) component fold

  -- ---- what the set's procedures leave

  opened_body_is : (g : Procedures K T F I) (set : T) (reason : Reason) (body : StoredBody F I)
      → body_of_stored (stored_opened g set reason body) ≡ opened_body g set (body_of_stored body) reason
  opened_body_is g set reason (Directory entries shadow) = refl
  opened_body_is g set reason (Link target) = refl
  opened_body_is g set reason (Other face inner) = refl

  pub opened_entries : (g : Procedures K T F I) (set : T) (reason : Reason) (body : StoredBody F I) → entries_in (stored_opened g set reason body) ≡ entries_in body
  opened_entries g set reason (Directory entries shadow) = refl
  opened_entries g set reason (Link target) = refl
  opened_entries g set reason (Other face inner) = refl

  closed_body_is : (g : Procedures K T F I) (set : T) (process_left system_left : ℕ) (body : StoredBody F I)
      → body_of_stored (stored_closed g set process_left system_left body) ≡ closed_body g set process_left system_left (body_of_stored body)
  closed_body_is g set process_left system_left (Directory entries shadow) = refl
  closed_body_is g set process_left system_left (Link target) = refl
  closed_body_is g set process_left system_left (Other face inner) = refl

  pub closed_entries : (g : Procedures K T F I) (set : T) (process_left system_left : ℕ) (body : StoredBody F I) → entries_in (stored_closed g set process_left system_left body) ≡ entries_in body
  closed_entries g set process_left system_left (Directory entries shadow) = refl
  closed_entries g set process_left system_left (Link target) = refl
  closed_entries g set process_left system_left (Other face inner) = refl

  pub opened_is_machines : OpenedIsTheMachines K T F I
  opened_is_machines g store set id reason = (
    same_objects store id (λ x. record x { body = stored_opened g set reason x.body }) (λ o. record o { body = opened_body g set o.body reason })
        (λ x. ap (λ body. record { id = id; body = body; permanent = x.permanent; exclusive = x.exclusive }) (opened_body_is g set reason x.body)),
    ap by_stamp (same_rows store id (λ x. record x { body = stored_opened g set reason x.body }) (λ x. opened_entries g set reason x.body)),
  )

  pub closed_is_machines : ClosedIsTheMachines K T F I
  closed_is_machines g store set id process_left system_left = (
    same_objects store id (λ x. record x { body = stored_closed g set process_left system_left x.body }) (λ o. record o { body = closed_body g set process_left system_left o.body })
        (λ x. ap (λ body. record { id = id; body = body; permanent = x.permanent; exclusive = x.exclusive }) (closed_body_is g set process_left system_left x.body)),
    ap by_stamp (same_rows store id (λ x. record x { body = stored_closed g set process_left system_left x.body }) (λ x. closed_entries g set process_left system_left x.body)),
  )
