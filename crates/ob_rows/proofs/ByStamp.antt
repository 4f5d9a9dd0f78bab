-- Rows under their stamps, in any order: what is found there is found among the rows by rising stamps, and how
-- these change as one comes and goes.
use Rattle.std.proofs.Common.{◌≡◌, ◌⊎◌, ◌∙◌, ℕ, ◌<◌, ◌≤◌, Bool, true, false, cond, nat_eq, nat_le, ◌==◌, List, [], ◌∷◌, ◌++◌, filter, find, length, All, Option, None, Some, IfSome, refl, ap, sym, subst, arith, inl, inr, eq-eqb, leb-true, leb-false}
use Rattle.std.proofs.lemmas.Bool.{cases_lt, eqb-true}
use Rattle.std.proofs.lemmas.Bool.Decides.{nat_tests}
use Rattle.std.proofs.lemmas.List.{length-map}
use Rattle.std.proofs.lemmas.List.Elements.{All-nil, All-cons, All-head, All-tail, All-weaker}
use Rattle.std.proofs.lemmas.List.Kept.{AllPairs-cons, AllPairs-filter}
use Rattle.std.specs.List.{AllByRecursion, IsDistinct}
use Rattle.std.specs.Map.{keys_of, lookup, values_of}
use Rattle.ob_model.proofs.Sorted.{All-sorted_by, pairs_head, pairs_none, pairs_tail, sorted_by-All, sorted_by-last, sorted_by-length}
use Rattle.ob_model.specs.declared.state.Row.{Row}
use Rattle.ob_model.specs.Sorted.{insert_by, sorted_by}
use Rattle.ob_rows.specs.Rows.{AreByStamp}
use Rattle.ob_rows.specs.Stamped.{AreStamped, rows_of, stamp_of}
use Rattle.ob_rows.proofs.Rising.{Before, found_without, find-none, has_other, has_stamp, none-below, same_where_found}

abbrev pub Entries : Type 0
Entries = List (ℕ × Row)

-- ---- a row is put among others

All-inserted : (P : Row → Type 0) (r : Row) (rows : List Row) → P r → All P rows → All P (insert_by stamp_of r rows)
All-inserted P r [] here all = All-cons P r [] here all
All-inserted P r (q ∷ rows) here all = go (nat_le r.stamp q.stamp) (All-inserted P r rows here (All-tail P q rows all))
  where
    go : (t : Bool) → All P (insert_by stamp_of r rows) → All P (cond t (r ∷ q ∷ rows) (q ∷ insert_by stamp_of r rows))
    go true more = All-cons P r (q ∷ rows) here all
    go false more = All-cons P q (insert_by stamp_of r rows) (All-head P q rows all) more

-- no other row has its stamp
abbrev pub IsAlone : Row → List Row → Type 0
IsAlone r rows = All (λ x. has_stamp r.stamp x ≡ false) rows

strict : (r q : Row) → has_stamp r.stamp q ≡ false → r.stamp ≤ q.stamp → r.stamp < q.stamp
strict r q apart low = go (cases_lt r.stamp q.stamp)
  where
    go : (r.stamp < q.stamp) ⊎ (q.stamp ≤ r.stamp) → r.stamp < q.stamp
    go (inl less) = less
    go (inr above) =
        let same : (q.stamp == r.stamp) ≡ true = eq-eqb q.stamp r.stamp (omega (arith, low, above)) in
        cc

inserted_rises : (r : Row) (rows : List Row) → IsAlone r rows → AreByStamp rows → AreByStamp (insert_by stamp_of r rows)
inserted_rises r [] alone rising = AllPairs-cons Before r [] (All-nil (Before r)) (pairs_none Before)
inserted_rises r (q ∷ rows) alone rising =
    go (nat_le r.stamp q.stamp) refl (inserted_rises r rows (All-tail (λ x. has_stamp r.stamp x ≡ false) q rows alone) (pairs_tail Before q rows rising))
  where
    go : (t : Bool) → nat_le r.stamp q.stamp ≡ t → AreByStamp (insert_by stamp_of r rows) → AreByStamp (cond t (r ∷ q ∷ rows) (q ∷ insert_by stamp_of r rows))
    go true before more =
        let less : r.stamp < q.stamp = strict r q (All-head (λ x. has_stamp r.stamp x ≡ false) q rows alone) (leb-true r.stamp q.stamp before) in
        AllPairs-cons Before r (q ∷ rows)
        (All-cons (Before r) q rows less (All-weaker (Before q) (Before r) (λ x behind. omega (arith, less, behind)) rows (pairs_head Before q rows rising))) rising
    go false behind more =
        AllPairs-cons Before q (insert_by stamp_of r rows)
        (All-inserted (Before q) r rows (leb-false r.stamp q.stamp behind) (pairs_head Before q rows rising)) more

inserted_found : (q : ℕ) (r : Row) (rows : List Row) → (has_stamp q r ≡ true → All (λ x. has_stamp q x ≡ false) rows)
    → find (has_stamp q) (insert_by stamp_of r rows) ≡ cond (has_stamp q r) (Some r) (find (has_stamp q) rows)
inserted_found q r [] alone = refl
inserted_found q r (x ∷ rows) alone =
    go (nat_le r.stamp x.stamp) (has_stamp q r) (has_stamp q x) refl refl
    (inserted_found q r rows (λ here. All-tail (λ y. has_stamp q y ≡ false) x rows (alone here)))
  where
    go : (t a b : Bool) → has_stamp q r ≡ a → has_stamp q x ≡ b
        → find (has_stamp q) (insert_by stamp_of r rows) ≡ cond (has_stamp q r) (Some r) (find (has_stamp q) rows)
        → find (has_stamp q) (cond t (r ∷ x ∷ rows) (x ∷ insert_by stamp_of r rows)) ≡ cond (has_stamp q r) (Some r) (find (has_stamp q) (x ∷ rows))
    go true a b ea eb more = refl
    go false true true ea eb more = let no = All-head (λ y. has_stamp q y ≡ false) x rows (alone ea) in cc
    go false true false ea eb more = rw eb (more ∙ ap (λ c. cond c (Some r) (find (has_stamp q) rows)) ea ∙ sym (ap (λ c. cond c (Some r) (find (has_stamp q) rows)) ea))
    go false false b ea eb more = rw ea (ap (cond (has_stamp q x) (Some x)) (more ∙ ap (λ c. cond c (Some r) (find (has_stamp q) rows)) ea))

-- ---- what is under the stamps

module _ (e : ℕ × Row) (entries : Entries) (stamped : AreStamped (e ∷ entries)) where
  apart_from_others : AllByRecursion (λ k. nat_eq e.0 k ≡ false) (keys_of entries)
  unfolding IsDistinct
  apart_from_others = stamped.distinct.0

  others_distinct : IsDistinct nat_eq (keys_of entries)
  unfolding IsDistinct
  others_distinct = stamped.distinct.1

  own_stamp : e.1.stamp ≡ e.0
  own_stamp = subst (λ (o : Option Row). IfSome o (λ r. r.stamp ≡ e.0)) (ap (λ t. cond t (Some e.1) (lookup (nat_eq e.0) entries)) (eq-eqb e.0 e.0 refl)) (stamped.own e.0)

absent : (key : ℕ) (entries : Entries) → AllByRecursion (λ k. nat_eq key k ≡ false) (keys_of entries) → lookup (nat_eq key) entries ≡ None
absent key [] apart = refl
absent key (e ∷ entries) apart = ap (λ t. cond t (Some e.1) (lookup (nat_eq key) entries)) apart.0 ∙ absent key entries apart.1

others_stamped : (e : ℕ × Row) (entries : Entries) → AreStamped (e ∷ entries) → AreStamped entries
others_stamped e entries stamped = record {
  distinct = others_distinct e entries stamped;
  own = λ q. go q (nat_eq q e.0) refl (stamped.own q);
}
  where
    go : (q : ℕ) (t : Bool) → nat_eq q e.0 ≡ t → IfSome (cond t (Some e.1) (lookup (nat_eq q) entries)) (λ r. r.stamp ≡ q) → IfSome (lookup (nat_eq q) entries) (λ r. r.stamp ≡ q)
    go q true same own =
        subst (λ (o : Option Row). IfSome o (λ r. r.stamp ≡ q))
        (sym (ap (λ k. lookup (nat_eq k) entries) (eqb-true q e.0 same) ∙ absent e.0 entries (apart_from_others e entries stamped))) tt
    go q false other own = own

alone : (key : ℕ) (entries : Entries) → AreStamped entries → AllByRecursion (λ k. nat_eq key k ≡ false) (keys_of entries)
    → All (λ x. has_stamp key x ≡ false) (values_of entries)
alone key [] stamped apart = All-nil (λ x. has_stamp key x ≡ false)
alone key (e ∷ entries) stamped apart =
    All-cons (λ x. has_stamp key x ≡ false) e.1 (values_of entries)
    (ap (λ n. n == key) (own_stamp e entries stamped) ∙ turned e.0 key ∙ apart.0)
    (alone key entries (others_stamped e entries stamped) apart.1)
  where
    turned : (a b : ℕ) → (a == b) ≡ nat_eq b a
    turned a b = grind (arith, nat_tests)

alone_sorted : (e : ℕ × Row) (entries : Entries) → AreStamped (e ∷ entries) → IsAlone e.1 (rows_of entries)
alone_sorted e entries stamped =
    All-sorted_by stamp_of (λ x. has_stamp e.1.stamp x ≡ false) (values_of entries)
    (subst (λ k. All (λ x. has_stamp k x ≡ false) (values_of entries)) (sym (own_stamp e entries stamped))
    (alone e.0 entries (others_stamped e entries stamped) (apart_from_others e entries stamped)))

pub rows_rise : (entries : Entries) → AreStamped entries → AreByStamp (rows_of entries)
rows_rise [] stamped = pairs_none Before
rows_rise (e ∷ entries) stamped = inserted_rises e.1 (rows_of entries) (alone_sorted e entries stamped) (rows_rise entries (others_stamped e entries stamped))

pub rows_found : (q : ℕ) (entries : Entries) → AreStamped entries → find (has_stamp q) (rows_of entries) ≡ lookup (nat_eq q) entries
rows_found q [] stamped = refl
rows_found q (e ∷ entries) stamped =
    inserted_found q e.1 (rows_of entries) at_it
    ∙ ap (cond (has_stamp q e.1) (Some e.1)) (rows_found q entries (others_stamped e entries stamped))
    ∙ ap (λ t. cond t (Some e.1) (lookup (nat_eq q) entries)) (ap (λ n. n == q) (own_stamp e entries stamped) ∙ turned e.0 q)
  where
    turned : (a b : ℕ) → (a == b) ≡ nat_eq b a
    turned a b = grind (arith, nat_tests)

    at_it : has_stamp q e.1 ≡ true → All (λ x. has_stamp q x ≡ false) (rows_of entries)
    at_it here = subst (λ k. All (λ x. has_stamp k x ≡ false) (rows_of entries)) (eqb-true e.1.stamp q here) (alone_sorted e entries stamped)

pub rows_counted : (entries : Entries) → length entries ≡ length (rows_of entries)
rows_counted entries = sym (sorted_by-length stamp_of (values_of entries) ∙ length-map entries (λ e. e.1))

-- ---- a row comes

values-push : (entries : Entries) (e : ℕ × Row) → values_of (entries ++ e ∷ []) ≡ values_of entries ++ e.1 ∷ []
values-push [] e = refl
values-push (x ∷ entries) e = ap (λ l. x.1 ∷ l) (values-push entries e)

append_none : (rows : List Row) → rows ++ [] ≡ rows
append_none [] = refl
append_none (r ∷ rows) = ap (λ l. r ∷ l) (append_none rows)

pub rows-push : (entries : Entries) (key : ℕ) (r : Row) → All (λ x. x.stamp < r.stamp) (rows_of entries) → rows_of (entries ++ (key, r) ∷ []) ≡ rows_of entries ++ r ∷ []
rows-push entries key r newest =
    ap (sorted_by stamp_of) (values-push entries (key, r))
    ∙ sorted_by-last stamp_of r (values_of entries) [] (sorted_by-All stamp_of (λ x. x.stamp < r.stamp) (values_of entries) newest) (All-nil (λ x. x.stamp < r.stamp))
    ∙ ap (λ l. sorted_by stamp_of l ++ r ∷ []) (append_none (values_of entries))

-- no row had its stamp
pub newest_is_new : (entries : Entries) (r : Row) → AreStamped entries → All (λ x. x.stamp < r.stamp) (rows_of entries) → lookup (nat_eq r.stamp) entries ≡ None
newest_is_new entries r stamped newest = sym (rows_found r.stamp entries stamped) ∙ find-none r.stamp (rows_of entries) (none-below r.stamp (rows_of entries) newest)

-- ---- what stays of the invariant

pub own-added : (old new : Entries) (r : Row) → AreStamped old → IsDistinct nat_eq (keys_of new)
    → ((q : ℕ) → lookup (nat_eq q) new ≡ cond (nat_eq r.stamp q) (Some r) (lookup (nat_eq q) old)) → AreStamped new
own-added old new r stamped distinct updates = record {
  distinct = distinct;
  own = λ q. subst (λ (o : Option Row). IfSome o (λ x. x.stamp ≡ q)) (sym (updates q)) (go q (nat_eq r.stamp q) refl);
}
  where
    go : (q : ℕ) (t : Bool) → nat_eq r.stamp q ≡ t → IfSome (cond t (Some r) (lookup (nat_eq q) old)) (λ x. x.stamp ≡ q)
    go q true same = eqb-true r.stamp q same
    go q false other = stamped.own q

pub own-removed : (old new : Entries) (stamp : ℕ) → AreStamped old → IsDistinct nat_eq (keys_of new)
    → ((q : ℕ) → lookup (nat_eq q) new ≡ cond (nat_eq stamp q) None (lookup (nat_eq q) old)) → AreStamped new
own-removed old new stamp stamped distinct updates = record {
  distinct = distinct;
  own = λ q. subst (λ (o : Option Row). IfSome o (λ x. x.stamp ≡ q)) (sym (updates q)) (go q (nat_eq stamp q));
}
  where
    go : (q : ℕ) (t : Bool) → IfSome (cond t None (lookup (nat_eq q) old)) (λ x. x.stamp ≡ q)
    go q true = tt
    go q false = stamped.own q

-- ---- a row goes

pub rows-removed : (old new : Entries) (stamp : ℕ) → AreStamped old → AreStamped new
    → ((q : ℕ) → lookup (nat_eq q) new ≡ cond (nat_eq stamp q) None (lookup (nat_eq q) old)) → rows_of new ≡ filter (has_other stamp) (rows_of old)
rows-removed old new stamp old_stamped new_stamped updates =
    same_where_found (rows_of new) (filter (has_other stamp) (rows_of old)) (rows_rise new new_stamped)
    (AllPairs-filter Before (has_other stamp) (rows_of old) (rows_rise old old_stamped))
    (λ q. rows_found q new new_stamped ∙ updates q ∙ ap (λ o. cond (stamp == q) None o) (sym (rows_found q old old_stamped)) ∙ sym (found_without stamp q (rows_of old)))
