-- Where the names of a store stand, as names and objects come and go.
use Rattle.std.proofs.Common.{◌≡◌, ◌≢◌, ◌∙◌, ℕ, ◌<◌, ◌==◌, ◌&&◌, ◌||◌, Bool, true, false, cond, not, List, [], ◌∷◌, ◌++◌, filter, find, map, Option, None, Some, option_map, ◌⊎◌, inl, inr, All, IsSome, refl, ap, sym, subst, arith, eq-eqb, eqb-true}
use Rattle.std.proofs.lemmas.Bool.{false≢true, ne_eqb}
use Rattle.std.proofs.lemmas.List.Elements.{All-nil, All-cons, All-head, All-tail, All-weaker}
use Rattle.std.specs.List.{AllPairs, list_any}
use Rattle.std.specs.Option.{is_some}
use Rattle.ob_model.specs.declared.state.Row.{Row}
use Rattle.ob_model.proofs.Finds.{find_none, filter_all, not_found}
use Rattle.ob_model.proofs.Ids.{Differ-from_rising}
use Rattle.ob_dirs.specs.declared.entry.DirEntry.{DirEntry}
use Rattle.ob_dirs.specs.Dir.{IsDir, ComesBefore, row_of}
use Rattle.ob_dirs.proofs.Earliest.{first_comes_before, others_are_dir}
use Rattle.ob_objects.specs.declared.named.EntryPlace.{EntryPlace}
use Rattle.ob_objects.specs.Rows.{stamp_of, by_stamp}
use Rattle.ob_objects.specs.Named.{place_of, stands_at}
use Rattle.ob_objects.specs.Store.{Entries, IsStore, directory_at, entries_at, rows_in_turn, rows_of, place_at}
use Rattle.ob_objects.specs.Changes.{with_name, without_name, without_object}
use Rattle.ob_model.proofs.Sorted.{pairs_head, pairs_tail, pairs-sorted_by, sorted_by-pairs, pairs-middle, sorted_by-All, All-sorted_by, sorted_by-Rises}
use Rattle.ob_objects.proofs.Entries.{nothing_mapped}
use Rattle.ob_objects.proofs.Searches.{find-insert_row, find-by_stamp-append, earlier_row, any_both, all_both, any_map}
use Rattle.ob_objects.proofs.Shown.{rows_are_entries, entries_at-is_dir, row_goes_with_name, rows_go_with_directory, Splits, named_splits, all_parts}

-- ---- one of some rows

-- the row is one of these
abbrev pub Among : Row → List Row → Type 0
Among r [] = ⊥
Among r (q ∷ rows) = (r ≡ q) ⊎ Among r rows

found_among : (test : Row → Bool) (rows : List Row) (r : Row) → find test rows ≡ Some r → Among r rows × (test r ≡ true)
found_among test [] r found = cc
found_among test (q ∷ rows) r found = go (test q) refl found (found_among test rows r)
  where
    go : (t : Bool) → test q ≡ t → cond t (Some q) (find test rows) ≡ Some r → (find test rows ≡ Some r → Among r rows × (test r ≡ true))
        → Among r (q ∷ rows) × (test r ≡ true)
    go true e found more =
        let same : r ≡ q = cc in
        (inl same, ap test same ∙ e)
    go false e found more = let parts = more found in (inr parts.0, parts.1)

among_filter : (keeps : Row → Bool) (r : Row) (rows : List Row) → keeps r ≡ true → Among r rows → Among r (filter keeps rows)
among_filter keeps r [] kept among = among
among_filter keeps r (q ∷ rows) kept (inl same) =
    subst (λ t. Among r (cond t (q ∷ filter keeps rows) (filter keeps rows))) (sym (ap keeps (sym same) ∙ kept)) (inl same)
among_filter keeps r (q ∷ rows) kept (inr among) = go (keeps q) (among_filter keeps r rows kept among)
  where
    go : (t : Bool) → Among r (filter keeps rows) → Among r (cond t (q ∷ filter keeps rows) (filter keeps rows))
    go true more = inr more
    go false more = more

among_kept : (keeps : Row → Bool) (r : Row) (rows : List Row) → Among r (filter keeps rows) → Among r rows
among_kept keeps r [] among = among
among_kept keeps r (q ∷ rows) among = go (keeps q) among (among_kept keeps r rows)
  where
    go : (t : Bool) → Among r (cond t (q ∷ filter keeps rows) (filter keeps rows)) → (Among r (filter keeps rows) → Among r rows) → Among r (q ∷ rows)
    go true (inl same) more = inl same
    go true (inr among) more = inr (more among)
    go false among more = inr (more among)

pub All_among : (P : Row → Type 0) (r : Row) (rows : List Row) → All P rows → Among r rows → P r
All_among P r [] all among = absurd among
All_among P r (q ∷ rows) all (inl same) = subst P (sym same) (All-head P q rows all)
All_among P r (q ∷ rows) all (inr among) = All_among P r rows (All-tail P q rows all) among

-- where no object has two names, the row of an object is the only one
abbrev pub AreApart : Row → Row → Type 0
AreApart a b = a.object ≢ b.object

apart_turned : (a b : Row) → AreApart a b → AreApart b a
apart_turned a b apart same = apart (sym same)

only_one : (r : Row) (rows : List Row) → AllPairs AreApart rows → Among r rows → All (λ q. q.object ≡ r.object → q ≡ r) rows
only_one r [] pairs among = absurd among
only_one r (x ∷ rows) pairs (inl same) =
    All-cons (λ q. q.object ≡ r.object → q ≡ r) x rows (λ named. sym same)
    (All-weaker (AreApart x) (λ q. q.object ≡ r.object → q ≡ r) (λ q apart named. absurd (apart (sym (named ∙ ap (λ y. y.object) same)))) rows (pairs_head AreApart x rows pairs))
only_one r (x ∷ rows) pairs (inr among) =
    All-cons (λ q. q.object ≡ r.object → q ≡ r) x rows (λ named. absurd (All_among (AreApart x) r rows (pairs_head AreApart x rows pairs) among named))
    (only_one r rows (pairs_tail AreApart x rows pairs) among)

-- ---- what is found among rows of which some went

pub any_found : {X : Type 0} (test : X → Bool) (xs : List X) → list_any test xs ≡ is_some (find test xs)
any_found test [] = refl
any_found test (x ∷ xs) = go (test x) (any_found test xs)
  where
    go : (t : Bool) → list_any test xs ≡ is_some (find test xs) → (t || list_any test xs) ≡ is_some (cond t (Some x) (find test xs))
    go true more = refl
    go false more = more

none_pass : {X : Type 0} (test : X → Bool) (xs : List X) → list_any test xs ≡ false → All (λ x. test x ≡ false) xs
none_pass test [] none = All-nil (λ x. test x ≡ false)
none_pass test (x ∷ xs) none = go (test x) refl none (none_pass test xs)
  where
    go : (t : Bool) → test x ≡ t → (t || list_any test xs) ≡ false → (list_any test xs ≡ false → All (λ y. test y ≡ false) xs) → All (λ y. test y ≡ false) (x ∷ xs)
    go true e none more = cc
    go false e none more = All-cons (λ y. test y ≡ false) x xs e (more none)

find_stays : (test keeps : Row → Bool) (rows : List Row) → All (λ r. test r ≡ true → keeps r ≡ true) rows → find test (filter keeps rows) ≡ find test rows
find_stays test keeps [] all = refl
find_stays test keeps (r ∷ rows) all =
    go (keeps r) (test r) refl refl (All-head (λ q. test q ≡ true → keeps q ≡ true) r rows all) (find_stays test keeps rows (All-tail (λ q. test q ≡ true → keeps q ≡ true) r rows all))
  where
    go : (k t : Bool) → keeps r ≡ k → test r ≡ t → (test r ≡ true → keeps r ≡ true) → find test (filter keeps rows) ≡ find test rows
        → find test (cond k (r ∷ filter keeps rows) (filter keeps rows)) ≡ cond (test r) (Some r) (find test rows)
    go true t e f here more = ap (λ o. cond (test r) (Some r) o) more
    go false true e f here more = absurd (false≢true (sym e ∙ here f))
    go false false e f here more = more ∙ sym (ap (λ b. cond b (Some r) (find test rows)) f)

find_goes : (test keeps : Row → Bool) (rows : List Row) → All (λ r. test r ≡ true → keeps r ≡ false) rows → find test (filter keeps rows) ≡ None
find_goes test keeps [] all = refl
find_goes test keeps (r ∷ rows) all =
    go (keeps r) (test r) refl refl (All-head (λ q. test q ≡ true → keeps q ≡ false) r rows all) (find_goes test keeps rows (All-tail (λ q. test q ≡ true → keeps q ≡ false) r rows all))
  where
    go : (k t : Bool) → keeps r ≡ k → test r ≡ t → (test r ≡ true → keeps r ≡ false) → find test (filter keeps rows) ≡ None
        → find test (cond k (r ∷ filter keeps rows) (filter keeps rows)) ≡ None
    go true true e f here more = absurd (false≢true (sym (here f) ∙ e))
    go true false e f here more = ap (λ b. cond b (Some r) (find test (filter keeps rows))) f ∙ more
    go false t e f here more = more

-- ---- the entries of a directory, and their rows

entry_of_row : (d : ℕ) (es : List DirEntry) (r : Row) → IsDir es → Among r (map (row_of d) es) → option_map (row_of d) (find (λ e. e.stamp == r.stamp) es) ≡ Some r
entry_of_row d [] r is among = absurd among
entry_of_row d (e ∷ es) r is (inl same) =
    ap (λ t. option_map (row_of d) (cond t (Some e) (find (λ x. x.stamp == r.stamp) es))) (eq-eqb e.stamp r.stamp (ap (λ q. q.stamp) (sym same)))
    ∙ ap Some (sym same)
entry_of_row d (e ∷ es) r is (inr among) =
    let later : e.stamp < r.stamp = All_among (λ q. e.stamp < q.stamp) r (map (row_of d) es) (behind es (first_comes_before e es is)) among in
    ap (λ t. option_map (row_of d) (cond t (Some e) (find (λ x. x.stamp == r.stamp) es))) (ne_eqb e.stamp r.stamp (λ same. omega (arith, later, same)))
    ∙ entry_of_row d es r (others_are_dir e es is) among
  where
    behind : (xs : List DirEntry) → All (ComesBefore e) xs → All (λ q. e.stamp < q.stamp) (map (row_of d) xs)
    behind [] all = All-nil (λ q. e.stamp < q.stamp)
    behind (x ∷ xs) all =
        All-cons (λ q. e.stamp < q.stamp) (row_of d x) (map (row_of d) xs) ((All-head (ComesBefore e) x xs all).0) (behind xs (All-tail (ComesBefore e) x xs all))

-- the row of an entry that is found, and the only one of its stamp
pub entry_among : (test : DirEntry → Bool) (d : ℕ) (es : List DirEntry) (e : DirEntry) → find test es ≡ Some e → Among (row_of d e) (map (row_of d) es) × (test e ≡ true)
entry_among test d [] e found = cc
entry_among test d (x ∷ es) e found = go (test x) refl found (entry_among test d es e)
  where
    go : (t : Bool) → test x ≡ t → cond t (Some x) (find test es) ≡ Some e → (find test es ≡ Some e → Among (row_of d e) (map (row_of d) es) × (test e ≡ true))
        → Among (row_of d e) (map (row_of d) (x ∷ es)) × (test e ≡ true)
    go true here found more =
        let same : e ≡ x = cc in
        (inl (ap (row_of d) same), ap test same ∙ here)
    go false there found more = let parts = more found in (inr parts.0, parts.1)

one_of_stamp : (d stamp : ℕ) (es : List DirEntry) (e : DirEntry) → IsDir es → find (λ x. x.stamp == stamp) es ≡ Some e → All (λ q. (q.stamp == stamp) ≡ true → q ≡ row_of d e) (map (row_of d) es)
one_of_stamp d stamp [] e is found = All-nil (λ q. (q.stamp == stamp) ≡ true → q ≡ row_of d e)
one_of_stamp d stamp (x ∷ es) e is found = go (x.stamp == stamp) refl found (one_of_stamp d stamp es e (others_are_dir x es is))
  where
    Is : Row → Type 0
    Is q = (q.stamp == stamp) ≡ true → q ≡ row_of d e

    others : x.stamp ≡ stamp → (xs : List DirEntry) → All (ComesBefore x) xs → All Is (map (row_of d) xs)
    others at [] all = All-nil Is
    others at (y ∷ xs) all =
        All-cons Is (row_of d y) (map (row_of d) xs) (λ same. absurd (omega (arith, (All-head (ComesBefore x) y xs all).0, at, eqb-true y.stamp stamp same)))
        (others at xs (All-tail (ComesBefore x) y xs all))

    go : (t : Bool) → (x.stamp == stamp) ≡ t → cond t (Some x) (find (λ y. y.stamp == stamp) es) ≡ Some e → (find (λ y. y.stamp == stamp) es ≡ Some e → All Is (map (row_of d) es)) → All Is (row_of d x ∷ map (row_of d) es)
    go true here found more = All-cons Is (row_of d x) (map (row_of d) es) (λ same. let first : x ≡ e = cc in ap (row_of d) first) (others (eqb-true x.stamp stamp here) es (first_comes_before x es is))
    go false there found more = All-cons Is (row_of d x) (map (row_of d) es) (λ same. absurd (false≢true (sym there ∙ same))) (more found)

none_of_stamp : (d stamp : ℕ) (es : List DirEntry) → find (λ x. x.stamp == stamp) es ≡ None → All (λ q. (q.stamp == stamp) ≡ true → ⊥) (map (row_of d) es)
none_of_stamp d stamp [] none = All-nil (λ q. (q.stamp == stamp) ≡ true → ⊥)
none_of_stamp d stamp (x ∷ es) none = go (x.stamp == stamp) refl none (none_of_stamp d stamp es)
  where
    go : (t : Bool) → (x.stamp == stamp) ≡ t → cond t (Some x) (find (λ y. y.stamp == stamp) es) ≡ None
        → (find (λ y. y.stamp == stamp) es ≡ None → All (λ q. (q.stamp == stamp) ≡ true → ⊥) (map (row_of d) es)) → All (λ q. (q.stamp == stamp) ≡ true → ⊥) (row_of d x ∷ map (row_of d) es)
    go true here none more = cc
    go false there none more = All-cons (λ q. (q.stamp == stamp) ≡ true → ⊥) (row_of d x) (map (row_of d) es) (λ same. false≢true (sym there ∙ same)) (more none)

-- one filter for two tests that agree on the rows
filter_agrees : (p q : Row → Bool) (rows : List Row) → All (λ r. p r ≡ q r) rows → filter p rows ≡ filter q rows
filter_agrees p q [] same = refl
filter_agrees p q (r ∷ rows) same =
    ap (λ b. cond b (r ∷ filter p rows) (filter p rows)) (All-head (λ x. p x ≡ q x) r rows same)
    ∙ ap (λ xs. cond (q r) (r ∷ xs) xs) (filter_agrees p q rows (All-tail (λ x. p x ≡ q x) r rows same))

both_hold : (P Q R : Row → Type 0) (rows : List Row) → ((r : Row) → P r → Q r → R r) → All P rows → All Q rows → All R rows
both_hold P Q R [] follows all other = All-nil R
both_hold P Q R (r ∷ rows) follows all other =
    All-cons R r rows (follows r (All-head P r rows all) (All-head Q r rows other)) (both_hold P Q R rows follows (All-tail P r rows all) (All-tail Q r rows other))

mapped_some : {X Y : Type 0} (f : X → Y) (o : Option X) (y : Y) → option_map f o ≡ Some y → (x : X) × (o ≡ Some x) × (f x ≡ y)
mapped_some f None y e = cc
mapped_some f (Some x) y e = (x, refl, cc)

-- ---- the name at a place

pub placed : (o : Option Row) (p : EntryPlace) → option_map place_of o ≡ Some p → (r : Row) × (o ≡ Some r) × (p ≡ place_of r)
placed None p e = cc
placed (Some r) p e = (r, refl, cc)

pub is_mapped_some : {X Y : Type 0} (f : X → Y) (o : Option X) → is_some (option_map f o) ≡ is_some o
is_mapped_some f None = refl
is_mapped_some f (Some x) = refl

-- the row of an entry that is found by its stamp is at that stamp
pub stands_there : (d stamp : ℕ) (es : List DirEntry) (e : DirEntry) → find (λ x. x.stamp == stamp) es ≡ Some e → stands_at d stamp (row_of d e) ≡ true
stands_there d stamp es e found =
    ap (λ t. t && (e.stamp == stamp)) (eq-eqb d d refl) ∙ (entry_among (λ x. x.stamp == stamp) d es e found).1

module _ {F I : Type 0} (store : Entries F I) (is : IsStore store) where
  entries_dir : (d : ℕ) → IsDir (entries_at store d)
  entries_dir d = entries_at-is_dir store d is.directories

  -- what stands at the place of an object's name is its name
  pub named_at : (id : ℕ) (p : EntryPlace) → place_at store id ≡ Some p
      → option_map (row_of p.directory) (find (λ e. e.stamp == p.stamp) (entries_at store p.directory)) ≡ find (λ r. r.object == id) (rows_of store)
  named_at id p at =
      let found = placed (find (λ r. r.object == id) (rows_of store)) p at in
      let r : Row = found.0 in
      let among = (found_among (λ q. q.object == id) (rows_of store) r found.1).0 in
      ap (λ (x : EntryPlace). option_map (row_of x.directory) (find (λ e. e.stamp == x.stamp) (entries_at store x.directory))) found.2
      ∙ entry_of_row r.directory (entries_at store r.directory) r (entries_dir r.directory)
      (subst (Among r) (rows_are_entries store is r.directory) (among_filter (λ q. q.directory == r.directory) r (rows_of store) (eq-eqb r.directory r.directory refl) among))
      ∙ sym found.1

  -- told from the entries that are found there
  pub named_in : (id : ℕ) (p : EntryPlace) (entries : List DirEntry) (o : Option DirEntry) → place_at store id ≡ Some p → entries ≡ entries_at store p.directory
      → o ≡ find (λ e. e.stamp == p.stamp) entries → option_map (row_of p.directory) o ≡ find (λ r. r.object == id) (rows_of store)
  named_in id p entries o at are found =
      ap (option_map (row_of p.directory)) (found ∙ ap (find (λ e. e.stamp == p.stamp)) are) ∙ named_at id p at

  -- the row of an entry of a directory is a row of the store
  pub row_among : (d : ℕ) (e : DirEntry) → Among (row_of d e) (map (row_of d) (entries_at store d)) → Among (row_of d e) (rows_of store)
  row_among d e among = among_kept (λ q. q.directory == d) (row_of d e) (rows_of store) (subst (Among (row_of d e)) (sym (rows_are_entries store is d)) among)

  -- ---- a name goes

  pub gone_row : (d stamp : ℕ) (e : DirEntry) → find (λ x. x.stamp == stamp) (entries_at store d) ≡ Some e → All (λ q. stands_at d stamp q ≡ true → q ≡ row_of d e) (rows_of store)
  gone_row d stamp e found =
      all_both (λ q. q.directory == d) (λ q. q.stamp == stamp) (λ q. q ≡ row_of d e) (rows_of store)
      (subst (All (λ q. (q.stamp == stamp) ≡ true → q ≡ row_of d e)) (sym (rows_are_entries store is d)) (one_of_stamp d stamp (entries_at store d) e (entries_dir d) found))

  pub place_goes : (d stamp : ℕ) (e : DirEntry) → find (λ x. x.stamp == stamp) (entries_at store d) ≡ Some e
      → (id : ℕ) → place_at (without_name store d stamp) id ≡ cond (e.object == id) None (place_at store id)
  place_goes d stamp e found id =
      ap (λ rows. option_map place_of (find (λ r. r.object == id) rows)) (row_goes_with_name store d stamp) ∙ go (e.object == id) refl
    where
      at : Among (row_of d e) (map (row_of d) (entries_at store d)) × ((e.stamp == stamp) ≡ true)
      at = entry_among (λ x. x.stamp == stamp) d (entries_at store d) e found

      stands : stands_at d stamp (row_of d e) ≡ true
      stands = stands_there d stamp (entries_at store d) e found

      go : (t : Bool) → (e.object == id) ≡ t
          → option_map place_of (find (λ r. r.object == id) (filter (λ r. not (stands_at d stamp r)) (rows_of store))) ≡ cond t None (place_at store id)
      go true same =
          ap (option_map place_of) (find_goes (λ r. r.object == id) (λ r. not (stands_at d stamp r)) (rows_of store)
          (All-weaker (λ q. q.object ≡ e.object → q ≡ row_of d e) (λ q. (q.object == id) ≡ true → not (stands_at d stamp q) ≡ false)
          (λ q one named. ap (λ x. not (stands_at d stamp x)) (one (eqb-true q.object id named ∙ sym (eqb-true e.object id same))) ∙ ap not stands)
          (rows_of store) (only_one (row_of d e) (rows_of store) is.named_once (row_among d e at.0))))
      go false apart =
          ap (option_map place_of) (find_stays (λ r. r.object == id) (λ r. not (stands_at d stamp r)) (rows_of store)
          (All-weaker (λ q. stands_at d stamp q ≡ true → q ≡ row_of d e) (λ q. (q.object == id) ≡ true → not (stands_at d stamp q) ≡ true)
          (λ q one named. stays (stands_at d stamp q) (λ there. false≢true (sym apart ∙ ap (λ x. x.object == id) (sym (one there)) ∙ named)))
          (rows_of store) (gone_row d stamp e found)))
        where
          stays : (b : Bool) → (b ≡ true → ⊥) → not b ≡ true
          stays true h = absurd (h refl)
          stays false h = refl

  -- where none goes, the rows are as they were
  pub none_goes : (d stamp : ℕ) → find (λ x. x.stamp == stamp) (entries_at store d) ≡ None → rows_of (without_name store d stamp) ≡ rows_of store
  none_goes d stamp none =
      row_goes_with_name store d stamp
      ∙ filter_all (λ r. not (stands_at d stamp r)) (rows_of store)
      (All-weaker (λ q. stands_at d stamp q ≡ true → ⊥) (λ q. not (stands_at d stamp q) ≡ true) (λ q apart. stays (stands_at d stamp q) apart) (rows_of store)
      (all_both (λ q. q.directory == d) (λ q. q.stamp == stamp) (λ q. ⊥) (rows_of store)
      (subst (All (λ q. (q.stamp == stamp) ≡ true → ⊥)) (sym (rows_are_entries store is d)) (none_of_stamp d stamp (entries_at store d) none))))
    where
      stays : (b : Bool) → (b ≡ true → ⊥) → not b ≡ true
      stays true h = absurd (h refl)
      stays false h = refl

  -- with the name at its place goes the one name of an object
  pub name_goes : (id : ℕ) (p : EntryPlace) → place_at store id ≡ Some p → rows_of (without_name store p.directory p.stamp) ≡ filter (λ r. not (r.object == id)) (rows_of store)
  name_goes id p at =
      row_goes_with_name store p.directory p.stamp
      ∙ filter_agrees (λ r. not (stands_at p.directory p.stamp r)) (λ r. not (r.object == id)) (rows_of store)
      (both_hold (λ q. q.object ≡ found.0.object → q ≡ found.0) (λ q. stands_at p.directory p.stamp q ≡ true → q ≡ row_of p.directory entry.0) (λ q. not (stands_at p.directory p.stamp q) ≡ not (q.object == id)) (rows_of store)
      (λ q one same. go q (stands_at p.directory p.stamp q) (q.object == id) refl refl one same)
      (only_one found.0 (rows_of store) is.named_once names.0) (gone_row p.directory p.stamp entry.0 entry.1))
    where
      found : (r : Row) × (find (λ q. q.object == id) (rows_of store) ≡ Some r) × (p ≡ place_of r)
      found = placed (find (λ q. q.object == id) (rows_of store)) p at

      names : Among found.0 (rows_of store) × ((found.0.object == id) ≡ true)
      names = found_among (λ q. q.object == id) (rows_of store) found.0 found.1

      entry : (e : DirEntry) × (find (λ x. x.stamp == p.stamp) (entries_at store p.directory) ≡ Some e) × (row_of p.directory e ≡ found.0)
      entry = mapped_some (row_of p.directory) (find (λ x. x.stamp == p.stamp) (entries_at store p.directory)) found.0 (named_at id p at ∙ found.1)

      there : stands_at p.directory p.stamp found.0 ≡ true
      there = ap (λ t. t && (found.0.stamp == p.stamp)) (eq-eqb found.0.directory p.directory (ap (λ (x : EntryPlace). x.directory) (sym found.2))) ∙ eq-eqb found.0.stamp p.stamp (ap (λ (x : EntryPlace). x.stamp) (sym found.2))

      go : (q : Row) (s t : Bool) → stands_at p.directory p.stamp q ≡ s → (q.object == id) ≡ t → (q.object ≡ found.0.object → q ≡ found.0) → (stands_at p.directory p.stamp q ≡ true → q ≡ row_of p.directory entry.0)
          → not s ≡ not t
      go q true true e f one same = refl
      go q false false e f one same = refl
      go q true false e f one same = absurd (false≢true (sym f ∙ ap (λ x. x.object == id) (same e ∙ entry.2) ∙ names.1))
      go q false true e f one same = absurd (false≢true (sym e ∙ ap (stands_at p.directory p.stamp) (one (eqb-true q.object id f ∙ sym (eqb-true found.0.object id names.1))) ∙ there))

  -- all names of an object lie in one directory
  pub one_directory : (id : ℕ) (p : EntryPlace) → place_at store id ≡ Some p → All (λ r. (r.object == id) ≡ true → r.directory ≡ p.directory) (rows_of store)
  one_directory id p at =
      let found = placed (find (λ q. q.object == id) (rows_of store)) p at in
      let names = found_among (λ q. q.object == id) (rows_of store) found.0 found.1 in
      All-weaker (λ q. q.object ≡ found.0.object → q ≡ found.0) (λ r. (r.object == id) ≡ true → r.directory ≡ p.directory)
      (λ q one named. ap (λ x. x.directory) (one (eqb-true q.object id named ∙ sym (eqb-true found.0.object id names.1))) ∙ ap (λ (x : EntryPlace). x.directory) (sym found.2))
      (rows_of store) (only_one found.0 (rows_of store) is.named_once names.0)

  -- and an object without a place has none
  pub no_name : (id : ℕ) → place_at store id ≡ None → All (λ r. (r.object == id) ≡ false) (rows_of store)
  no_name id none = not_found (λ r. r.object == id) (rows_of store) (nothing_mapped place_of (find (λ r. r.object == id) (rows_of store)) none)

  -- ---- an object goes, with the names that lie in it

  pub places_go : (d id : ℕ) → place_at (without_object store d) id ≡ cond (list_any (λ e. e.object == id) (entries_at store d)) None (place_at store id)
  places_go d id =
      ap (λ rows. option_map place_of (find (λ r. r.object == id) rows)) (rows_go_with_directory store d) ∙ go (find (λ e. e.object == id) (entries_at store d)) refl
    where
      stays : (a b : Bool) → (a && b) ≡ false → b ≡ true → not a ≡ true
      stays true b both here = absurd (false≢true (sym both ∙ here))
      stays false b both here = refl

      go : (o : Option DirEntry) → find (λ e. e.object == id) (entries_at store d) ≡ o
          → option_map place_of (find (λ r. r.object == id) (filter (λ r. not (r.directory == d)) (rows_of store)))
          ≡ cond (list_any (λ e. e.object == id) (entries_at store d)) None (place_at store id)
      go None e =
          ap (option_map place_of) (find_stays (λ r. r.object == id) (λ r. not (r.directory == d)) (rows_of store)
          (All-weaker (λ q. ((q.directory == d) && (q.object == id)) ≡ false) (λ q. (q.object == id) ≡ true → not (q.directory == d) ≡ true)
          (λ q both here. stays (q.directory == d) (q.object == id) both here) (rows_of store)
          (none_pass (λ q. (q.directory == d) && (q.object == id)) (rows_of store)
          (any_both (λ q. q.directory == d) (λ q. q.object == id) (rows_of store)
          ∙ ap (list_any (λ q. q.object == id)) (rows_are_entries store is d)
          ∙ any_map (row_of d) (λ q. q.object == id) (entries_at store d)
          ∙ any_found (λ x. x.object == id) (entries_at store d) ∙ ap is_some e))))
          ∙ ap (λ t. cond t None (place_at store id)) (sym (any_found (λ x. x.object == id) (entries_at store d) ∙ ap is_some e))
      go (Some x) e =
          let at = entry_among (λ y. y.object == id) d (entries_at store d) x e in
          ap (option_map place_of) (find_goes (λ r. r.object == id) (λ r. not (r.directory == d)) (rows_of store)
          (All-weaker (λ q. q.object ≡ x.object → q ≡ row_of d x) (λ q. (q.object == id) ≡ true → not (q.directory == d) ≡ false)
          (λ q one named. ap (λ y. not (y.directory == d)) (one (eqb-true q.object id named ∙ sym (eqb-true x.object id at.1))) ∙ ap not (eq-eqb d d refl))
          (rows_of store) (only_one (row_of d x) (rows_of store) is.named_once (row_among d x at.0))))
          ∙ ap (λ t. cond t None (place_at store id)) (sym (any_found (λ y. y.object == id) (entries_at store d) ∙ ap is_some e))

  -- ---- a name comes

  pub place_comes : (d : ℕ) (entry : DirEntry) → IsSome (directory_at store d) → All (λ r. r.object ≢ entry.object) (rows_of store)
      → (id : ℕ) → place_at (with_name store d entry) id ≡ cond (entry.object == id) (Some (place_of (row_of d entry))) (place_at store id)
  place_comes d entry there unnamed id =
      ap (option_map place_of) (ap (λ rows. find test (by_stamp rows)) parts.together
      ∙ find-by_stamp-append test parts.before (row_of d entry ∷ parts.behind)
      ∙ ap (earlier_row (find test (by_stamp parts.before))) (find-insert_row test (row_of d entry) (by_stamp parts.behind) (sorted_by-Rises stamp_of parts.behind)))
      ∙ go (entry.object == id) refl
    where
      parts : Splits store d entry
      parts = named_splits store d entry (Differ-from_rising store is.rising) there

      test : Row → Bool
      test r = r.object == id

      apart : All (λ r. r.object ≢ entry.object) parts.before × All (λ r. r.object ≢ entry.object) parts.behind
      apart = all_parts (λ r. r.object ≢ entry.object) parts.before parts.behind (subst (All (λ r. r.object ≢ entry.object)) parts.without (sorted_by-All stamp_of (λ r. r.object ≢ entry.object) (rows_in_turn store) unnamed))

      none_there : (entry.object == id) ≡ true → (xs : List Row) → All (λ r. r.object ≢ entry.object) xs → find test (by_stamp xs) ≡ None
      none_there same xs all =
          find_none test (by_stamp xs) (All-weaker (λ r. r.object ≢ entry.object) (λ r. test r ≡ false)
          (λ r other. ne_eqb r.object id (λ at. other (at ∙ sym (eqb-true entry.object id same)))) (by_stamp xs) (All-sorted_by stamp_of (λ r. r.object ≢ entry.object) xs all))

      go : (t : Bool) → (entry.object == id) ≡ t
          → option_map place_of (earlier_row (find test (by_stamp parts.before)) (cond t (earlier_row (Some (row_of d entry)) (find test (by_stamp parts.behind))) (find test (by_stamp parts.behind))))
          ≡ cond t (Some (place_of (row_of d entry))) (place_at store id)
      go true same =
          ap (λ o. option_map place_of (earlier_row o (earlier_row (Some (row_of d entry)) (find test (by_stamp parts.behind))))) (none_there same parts.before apart.0)
          ∙ ap (λ o. option_map place_of (earlier_row (Some (row_of d entry)) o)) (none_there same parts.behind apart.1)
      go false other =
          ap (option_map place_of) (sym (find-by_stamp-append test parts.before parts.behind) ∙ ap (λ rows. find test (by_stamp rows)) (sym parts.without))

  pub named_once_more : (d : ℕ) (entry : DirEntry) → IsSome (directory_at store d) → All (λ r. r.object ≢ entry.object) (rows_of store) → AllPairs AreApart (rows_of (with_name store d entry))
  named_once_more d entry there unnamed =
      let parts = named_splits store d entry (Differ-from_rising store is.rising) there in
      subst (λ rows. AllPairs AreApart (by_stamp rows)) (sym parts.together)
      (pairs-sorted_by stamp_of AreApart apart_turned (parts.before ++ row_of d entry ∷ parts.behind)
      (pairs-middle stamp_of AreApart apart_turned (row_of d entry) parts.before parts.behind
      (subst (All (AreApart (row_of d entry))) parts.without (sorted_by-All stamp_of (AreApart (row_of d entry)) _ (All-weaker (λ r. r.object ≢ entry.object) (AreApart (row_of d entry)) (λ r apart same. apart (sym same)) (rows_of store) unnamed)))
      (subst (AllPairs AreApart) parts.without (sorted_by-pairs stamp_of AreApart apart_turned _ is.named_once))))
