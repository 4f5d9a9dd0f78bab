-- How many rows a store has after each change.
use Rattle.std.proofs.Common.{◌≡◌, ◌∙◌, ℕ, ◌+◌, ◌==◌, Bool, true, false, cond, not, List, [], ◌∷◌, length, filter, find, Some, inl, inr, All, IsSome, refl, ap, sym, arith}
use Rattle.std.proofs.lemmas.List.{length-append, length-map}
use Rattle.std.proofs.lemmas.List.Elements.{All-nil, All-cons, All-head, All-tail}
use Rattle.std.specs.List.{AllPairs}
use Rattle.ob_model.specs.declared.state.Row.{Row}
use Rattle.ob_model.specs.declared.terms.Reason.{Reason}
use Rattle.ob_model.specs.Procedures.{Procedures}
use Rattle.ob_model.proofs.Finds.{filter_all}
use Rattle.ob_model.proofs.Ids.{Differ-from_rising}
use Rattle.ob_model.proofs.Sorted.{pairs_head, pairs_tail, sorted_by-length}
use Rattle.ob_dirs.specs.declared.entry.DirEntry.{DirEntry}
use Rattle.ob_dirs.specs.Dir.{row_of}
use Rattle.ob_objects.specs.declared.object.StoredObject.{StoredObject}
use Rattle.ob_objects.specs.Rows.{stamp_of, by_stamp}
use Rattle.ob_objects.specs.Named.{stands_at}
use Rattle.ob_objects.specs.Store.{Entries, IsStore, directory_at, entries_in, entries_at, rows_in_turn, rows_of}
use Rattle.ob_objects.specs.Changes.{with_entry, with_name, without_name, without_object, with_permanence, with_opened, with_closed}
use Rattle.ob_objects.proofs.Shown.{rows_are_entries, row_goes_with_name, rows_go_with_directory, new_object_has_no_row, permanence_is_objects, same_rows, opened_entries, closed_entries, named_splits}
use Rattle.ob_objects.proofs.Stands.{Among, AreApart, All_among, entry_among, row_among, gone_row, stands_there}

-- those that pass a test and the others are all
two_parts : (test : Row → Bool) (rows : List Row) → length (filter test rows) + length (filter (λ r. not (test r)) rows) ≡ length rows
two_parts test [] = refl
two_parts test (r ∷ rows) = go (test r) (two_parts test rows)
  where
    go : (t : Bool) → length (filter test rows) + length (filter (λ q. not (test q)) rows) ≡ length rows
        → length (cond t (r ∷ filter test rows) (filter test rows)) + length (cond (not t) (r ∷ filter (λ q. not (test q)) rows) (filter (λ q. not (test q)) rows)) ≡ length (r ∷ rows)
    go true more = omega (arith, more)
    go false more = omega (arith, more)

-- one row alone goes, where it alone passes and no object has two names
one_goes : (test : Row → Bool) (r : Row) (rows : List Row) → Among r rows → test r ≡ true → All (λ q. test q ≡ true → q ≡ r) rows → AllPairs AreApart rows
    → length (filter (λ q. not (test q)) rows) + 1 ≡ length rows
one_goes test r [] among passes alone apart = absurd among
one_goes test r (x ∷ rows) (inl same) passes alone apart =
    ap (λ t. length (cond (not t) (x ∷ filter (λ q. not (test q)) rows) (filter (λ q. not (test q)) rows)) + 1) (ap test (sym same) ∙ passes)
    ∙ ap (λ qs. length qs + 1) (filter_all (λ q. not (test q)) rows (others rows (All-tail (λ q. test q ≡ true → q ≡ r) x rows alone) (pairs_head AreApart x rows apart)))
    ∙ omega arith
  where
    stays : (b : Bool) → (b ≡ true → ⊥) → not b ≡ true
    stays true h = absurd (h refl)
    stays false h = refl

    others : (qs : List Row) → All (λ q. test q ≡ true → q ≡ r) qs → All (AreApart x) qs → All (λ q. not (test q) ≡ true) qs
    others qs ones aparts = both qs ones aparts
      where
        both : (ps : List Row) → All (λ q. test q ≡ true → q ≡ r) ps → All (AreApart x) ps → All (λ q. not (test q) ≡ true) ps
        both [] ones aparts = All-nil (λ q. not (test q) ≡ true)
        both (q ∷ ps) ones aparts =
            All-cons (λ q. not (test q) ≡ true) q ps
            (stays (test q) (λ passed. All-head (AreApart x) q ps aparts (ap (λ (y : Row). y.object) (sym same) ∙ ap (λ (y : Row). y.object) (sym (All-head (λ q. test q ≡ true → q ≡ r) q ps ones passed)))))
            (both ps (All-tail (λ q. test q ≡ true → q ≡ r) q ps ones) (All-tail (AreApart x) q ps aparts))
one_goes test r (x ∷ rows) (inr among) passes alone apart =
    go (test x) refl (one_goes test r rows among passes (All-tail (λ q. test q ≡ true → q ≡ r) x rows alone) (pairs_tail AreApart x rows apart))
  where
    go : (t : Bool) → test x ≡ t → length (filter (λ q. not (test q)) rows) + 1 ≡ length rows
        → length (cond (not t) (x ∷ filter (λ q. not (test q)) rows) (filter (λ q. not (test q)) rows)) + 1 ≡ length (x ∷ rows)
    go true e more =
        absurd (All_among (AreApart x) r rows (pairs_head AreApart x rows apart) among (ap (λ (y : Row). y.object) (All-head (λ q. test q ≡ true → q ≡ r) x rows alone e)))
    go false e more = omega (arith, more)

module _ {F I : Type 0} (store : Entries F I) where
  -- how many rows there are
  abbrev count : Entries F I → ℕ
  count entries = length (rows_of entries)

  in_turn : (entries : Entries F I) → count entries ≡ length (rows_in_turn entries)
  in_turn entries = sorted_by-length stamp_of (rows_in_turn entries)

  -- an object with no entry in it brings none
  pub count_with_entry : (id : ℕ) (x : StoredObject F I) → entries_in x.body ≡ [] → count (with_entry store id x) ≡ count store
  count_with_entry id x none = ap length (new_object_has_no_row store id x none)

  pub count_with_permanence : (id : ℕ) (permanent : Bool) → count (with_permanence store id permanent) ≡ count store
  count_with_permanence id permanent = ap length ((permanence_is_objects store id permanent).1)

  pub count_opened : {K T : Type 0} (g : Procedures K T F I) (set : T) (id : ℕ) (reason : Reason) → count (with_opened g store set id reason) ≡ count store
  count_opened g set id reason = ap (λ rows. length (by_stamp rows)) (same_rows store id _ (λ x. opened_entries g set reason x.body))

  pub count_closed : {K T : Type 0} (g : Procedures K T F I) (set : T) (id process_left system_left : ℕ) → count (with_closed g store set id process_left system_left) ≡ count store
  count_closed g set id process_left system_left = ap (λ rows. length (by_stamp rows)) (same_rows store id _ (λ x. closed_entries g set process_left system_left x.body))

  -- a name brings one
  pub count_with_name : IsStore store → (d : ℕ) (entry : DirEntry) → IsSome (directory_at store d) → count (with_name store d entry) ≡ count store + 1
  count_with_name is d entry there =
      let splits = named_splits store d entry (Differ-from_rising store is.rising) there in
      let more = length-append splits.before (row_of d entry ∷ splits.behind) in
      let all = length-append splits.before splits.behind in
      omega (arith, in_turn (with_name store d entry), in_turn store, ap length splits.together, ap length splits.without, more, all)

  -- a name that was there takes one away, and no other
  pub count_without_name : IsStore store → (d stamp : ℕ) (e : DirEntry) → find (λ x. x.stamp == stamp) (entries_at store d) ≡ Some e → count (without_name store d stamp) + 1 ≡ count store
  count_without_name is d stamp e found =
      ap (λ rows. length rows + 1) (row_goes_with_name store d stamp)
      ∙ one_goes (stands_at d stamp) (row_of d e) (rows_of store) (row_among store is d e (entry_among (λ x. x.stamp == stamp) d (entries_at store d) e found).0) (stands_there d stamp (entries_at store d) e found)
      (gone_row store is d stamp e found) is.named_once

  -- an object takes away as many as lie in it
  pub count_without_object : IsStore store → (id : ℕ) → count (without_object store id) + length (entries_at store id) ≡ count store
  count_without_object is id =
      let parts = two_parts (λ r. r.directory == id) (rows_of store) in
      let inside = ap length (rows_are_entries store is id) ∙ length-map (entries_at store id) (row_of id) in
      omega (arith, ap length (rows_go_with_directory store id), parts, inside)
