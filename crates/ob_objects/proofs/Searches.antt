-- What a search over a store finds: the name of least stamp, a name or an object that passes a test.
use Rattle.std.proofs.Common.{◌≡◌, ◌∙◌, ℕ, suc, ◌≤◌, ◌==◌, ◌&&◌, ◌||◌, Bool, true, false, cond, if◌then◌else◌, not, nat_le, List, [], ◌∷◌, ◌++◌, length, filter, find, map, Option, None, Some, MatchOption, All, refl, ap, sym, arith, leb-true, leb-false, le-leb}
use Rattle.std.proofs.lemmas.Bool.{false≢true}
use Rattle.std.proofs.lemmas.Bool.Decides.{nat_tests}
use Rattle.std.proofs.lemmas.List.Elements.{All-nil, All-cons, All-head, All-tail, All-weaker}
use Rattle.std.specs.List.{list_any}
use Rattle.ob_model.specs.declared.state.Row.{Row}
use Rattle.ob_dirs.specs.Dir.{row_of}
use Rattle.ob_model.specs.Sorted.{insert_by}
use Rattle.ob_model.proofs.Sorted.{sorted_by-Rises, above-leb}
use Rattle.ob_objects.specs.Rows.{stamp_of, by_stamp}
use Rattle.ob_objects.specs.Store.{Entries, IsStore, entries_at, rows_of}
use Rattle.ob_objects.proofs.ByStamp.{Rises, ComesFirst}
use Rattle.ob_objects.proofs.Shown.{rows_are_entries}

-- ---- the earlier of two rows

-- of two rows the one of lesser stamp, and of two with one stamp the first
abbrev pub earlier_row : Option Row → Option Row → Option Row
earlier_row None next = next
earlier_row (Some first) None = Some first
earlier_row (Some first) (Some second) = Some (if nat_le first.stamp second.stamp then first else second)

stays_first : (r : Row) (o : Option Row) → MatchOption o (Unit {0}) (ComesFirst r) → earlier_row (Some r) o ≡ Some r
stays_first r None first = refl
stays_first r (Some q) first = ap (λ t. Some (cond t r q)) (le-leb r.stamp q.stamp first)

earlier_assoc : (a b c : Option Row) → earlier_row (earlier_row a b) c ≡ earlier_row a (earlier_row b c)
earlier_assoc None b c = refl
earlier_assoc (Some x) None c = refl
earlier_assoc (Some x) (Some y) None = refl
earlier_assoc (Some x) (Some y) (Some z) = ap Some (go (nat_le x.stamp y.stamp) (nat_le y.stamp z.stamp) refl refl)
  where
    go : (xy yz : Bool) → nat_le x.stamp y.stamp ≡ xy → nat_le y.stamp z.stamp ≡ yz
        → cond (nat_le (cond xy x y).stamp z.stamp) (cond xy x y) z ≡ cond (nat_le x.stamp (cond yz y z).stamp) x (cond yz y z)
    go true true e f =
        ap (λ t. cond t x z) (le-leb x.stamp z.stamp (omega (arith, leb-true x.stamp y.stamp e, leb-true y.stamp z.stamp f)))
        ∙ sym (ap (λ t. cond t x y) e)
    go true false e f = refl
    go false true e f = ap (λ t. cond t y z) f ∙ sym (ap (λ t. cond t x y) e)
    go false false e f =
        ap (λ t. cond t y z) f
        ∙ sym (ap (λ t. cond t x z) (above-leb z.stamp x.stamp (omega (arith, leb-false x.stamp y.stamp e, leb-false y.stamp z.stamp f))))

pub earlier_none : (best : Option Row) → earlier_row best None ≡ best
earlier_none None = refl
earlier_none (Some r) = refl

-- ---- what is found among sorted rows

found_holds : (test : Row → Bool) (P : Row → Type 0) (rows : List Row) → All P rows → MatchOption (find test rows) (Unit {0}) P
found_holds test P [] all = tt
found_holds test P (r ∷ rows) all = go (test r) (found_holds test P rows (All-tail P r rows all))
  where
    go : (t : Bool) → MatchOption (find test rows) (Unit {0}) P → MatchOption (cond t (Some r) (find test rows)) (Unit {0}) P
    go true more = All-head P r rows all
    go false more = more

pub find-insert_row : (test : Row → Bool) (r : Row) (rows : List Row) → Rises rows
    → find test (insert_by stamp_of r rows) ≡ cond (test r) (earlier_row (Some r) (find test rows)) (find test rows)
find-insert_row test r [] rises = refl
find-insert_row test r (q ∷ rows) rises = go (nat_le r.stamp q.stamp) refl (find-insert_row test r rows rises.1)
  where
    all_behind : nat_le r.stamp q.stamp ≡ true → All (ComesFirst r) (q ∷ rows)
    all_behind before =
        let first : r.stamp ≤ q.stamp = leb-true r.stamp q.stamp before in
        All-cons (ComesFirst r) q rows first (All-weaker (ComesFirst q) (ComesFirst r) (λ x behind. omega (arith, first, behind)) rows rises.0)

    ahead : nat_le r.stamp q.stamp ≡ true → (here : Bool)
        → cond here (Some r) (find test (q ∷ rows)) ≡ cond here (earlier_row (Some r) (find test (q ∷ rows))) (find test (q ∷ rows))
    ahead before true = sym (stays_first r (find test (q ∷ rows)) (found_holds test (ComesFirst r) (q ∷ rows) (all_behind before)))
    ahead before false = refl

    behind : nat_le r.stamp q.stamp ≡ false → (here there : Bool)
        → find test (insert_by stamp_of r rows) ≡ cond here (earlier_row (Some r) (find test rows)) (find test rows)
        → cond there (Some q) (find test (insert_by stamp_of r rows))
        ≡ cond here (earlier_row (Some r) (cond there (Some q) (find test rows))) (cond there (Some q) (find test rows))
    behind after true true more = sym (ap (λ t. Some (cond t r q)) after)
    behind after true false more = more
    behind after false true more = refl
    behind after false false more = more

    go : (t : Bool) → nat_le r.stamp q.stamp ≡ t
        → find test (insert_by stamp_of r rows) ≡ cond (test r) (earlier_row (Some r) (find test rows)) (find test rows)
        → find test (cond t (r ∷ q ∷ rows) (q ∷ insert_by stamp_of r rows))
        ≡ cond (test r) (earlier_row (Some r) (find test (q ∷ rows))) (find test (q ∷ rows))
    go true e more = ahead e (test r)
    go false e more = behind e (test r) (test q) more

pub find-by_stamp-append : (test : Row → Bool) (xs ys : List Row)
    → find test (by_stamp (xs ++ ys)) ≡ earlier_row (find test (by_stamp xs)) (find test (by_stamp ys))
find-by_stamp-append test [] ys = refl
find-by_stamp-append test (x ∷ xs) ys =
    find-insert_row test x (by_stamp (xs ++ ys)) (sorted_by-Rises stamp_of (xs ++ ys))
    ∙ ap (λ o. cond (test x) (earlier_row (Some x) o) o) (find-by_stamp-append test xs ys)
    ∙ go (test x)
    ∙ ap (λ o. earlier_row o (find test (by_stamp ys))) (sym (find-insert_row test x (by_stamp xs) (sorted_by-Rises stamp_of xs)))
  where
    go : (t : Bool)
        → cond t (earlier_row (Some x) (earlier_row (find test (by_stamp xs)) (find test (by_stamp ys)))) (earlier_row (find test (by_stamp xs)) (find test (by_stamp ys)))
        ≡ earlier_row (cond t (earlier_row (Some x) (find test (by_stamp xs))) (find test (by_stamp xs))) (find test (by_stamp ys))
    go true = sym (earlier_assoc (Some x) (find test (by_stamp xs)) (find test (by_stamp ys)))
    go false = refl

-- ---- the name of an object

-- the row is a name of the object
abbrev pub names : ℕ → Row → Bool
names id r = r.object == id

-- ---- a test of two parts

pub any_both : {X : Type 0} (p q : X → Bool) (xs : List X) → list_any (λ x. p x && q x) xs ≡ list_any q (filter p xs)
any_both p q [] = refl
any_both {X} p q (x ∷ xs) = go (p x) (any_both p q xs)
  where
    go : (t : Bool) → list_any (λ (y : X). p y && q y) xs ≡ list_any q (filter p xs)
        → ((t && q x) || list_any (λ (y : X). p y && q y) xs) ≡ list_any q (cond t (x ∷ filter p xs) (filter p xs))
    go true more = ap (λ t. q x || t) more
    go false more = more

pub any_map : {X Y : Type 0} (f : X → Y) (q : Y → Bool) (xs : List X) → list_any q (map f xs) ≡ list_any (λ x. q (f x)) xs
any_map f q [] = refl
any_map f q (x ∷ xs) = ap (λ t. q (f x) || t) (any_map f q xs)

pub all_both : {X : Type 0} (p q : X → Bool) (P : X → Type 0) (xs : List X) → All (λ x. q x ≡ true → P x) (filter p xs) → All (λ x. (p x && q x) ≡ true → P x) xs
all_both p q P [] all = All-nil (λ x. (p x && q x) ≡ true → P x)
all_both {X} p q P (x ∷ xs) all = go (p x) refl all (all_both p q P xs)
  where
    Both : X → Type 0
    Both y = (p y && q y) ≡ true → P y

    go : (t : Bool) → p x ≡ t → All (λ y. q y ≡ true → P y) (cond t (x ∷ filter p xs) (filter p xs)) → (All (λ y. q y ≡ true → P y) (filter p xs) → All Both xs) → All Both (x ∷ xs)
    go true e all more =
        All-cons Both x xs (λ both. All-head (λ y. q y ≡ true → P y) x (filter p xs) all (sym (ap (λ t. t && q x) e) ∙ both))
        (more (All-tail (λ y. q y ≡ true → P y) x (filter p xs) all))
    go false e all more = All-cons Both x xs (λ both. absurd (false≢true (sym (ap (λ t. t && q x) e) ∙ both))) (more all)

-- ---- whether a name lies in a directory

some_more : (n : ℕ) → true ≡ not (suc n == 0)
some_more n = grind (arith, nat_tests)

any_filter : {X : Type 0} (p : X → Bool) (xs : List X) → list_any p xs ≡ not (length (filter p xs) == 0)
any_filter p [] = refl
any_filter p (x ∷ xs) = go (p x) (any_filter p xs)
  where
    go : (t : Bool) → list_any p xs ≡ not (length (filter p xs) == 0) → (t || list_any p xs) ≡ not (length (cond t (x ∷ filter p xs) (filter p xs)) == 0)
    go true more = some_more (length (filter p xs))
    go false more = more

same_length : {X Y : Type 0} (f : X → Y) (xs : List X) → length (map f xs) ≡ length xs
same_length f [] = refl
same_length f (x ∷ xs) = ap suc (same_length f xs)

pub holds_entries : {F I : Type 0} (store : Entries F I) (d : ℕ) → IsStore store → not (length (entries_at store d) == 0) ≡ list_any (λ r. r.directory == d) (rows_of store)
holds_entries store d is =
    sym (any_filter (λ r. r.directory == d) (rows_of store)
    ∙ ap (λ rs. not (length rs == 0)) (rows_are_entries store is d)
    ∙ ap (λ n. not (n == 0)) (same_length (row_of d) (entries_at store d)))
