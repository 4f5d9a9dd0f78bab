-- What a component finds in a directory, by the stamps of the rows that have its hash.
use Rattle.std.proofs.Common.{◌≡◌, ◌∙◌, ℕ, Bool, true, false, cond, ◌&&◌, ◌==◌, List, [], ◌∷◌, filter, find, fold, map, get_or, drop, length, All, Option, None, Some, MatchOption, nat_le, refl, ap, sym, arith, le-leb, add-one, drop-cons, ◌+◌, ◌<◌}
use Rattle.std.specs.Option.{option_or}
use Rattle.std.proofs.lemmas.Bool.{eqb-true, eq-eqb}
use Rattle.std.proofs.lemmas.List.Elements.{All-head, All-tail, All-filter}
use Rattle.ob_model.proofs.Sorted.{pairs_head, pairs_tail}
use Rattle.ob_model.specs.declared.state.Row.{Row}
use Rattle.ob_model.specs.Names.{upper, same_byte, same_name}
use Rattle.ob_model.specs.Paths.{earlier, earliest, is_match}
use Rattle.ob_rows.specs.Hashes.{folded_hash, row_hash}
use Rattle.ob_rows.specs.Index.{first_named, is_hashed, row_named, stamps_hashed}
use Rattle.ob_rows.specs.Rows.{AreByStamp, found_among}
use Rattle.ob_rows.proofs.Rising.{Before}

-- ---- the row of least stamp among those that a test keeps is the first that it keeps

-- what holds of each row holds of the earliest
earlier_holds : (P : Row → Type 0) (r : Row) (o : Option Row) → P r → MatchOption o (Unit {0}) P → P (earlier r o)
earlier_holds P r None here there = here
earlier_holds P r (Some x) here there = go (nat_le r.stamp x.stamp)
  where
    go : (b : Bool) → P (cond b r x)
    go true = here
    go false = there

earliest_holds : (P : Row → Type 0) (rows : List Row) → All P rows → MatchOption (earliest rows) (Unit {0}) P
earliest_holds P [] each = tt
earliest_holds P (r ∷ rows) each = earlier_holds P r (earliest rows) (All-head P r rows each) (earliest_holds P rows (All-tail P r rows each))

-- a row that comes before the other, or is alone, is the earlier
stays_earlier : (r : Row) (o : Option Row) → MatchOption o (Unit {0}) (Before r) → earlier r o ≡ r
stays_earlier r None before = refl
stays_earlier r (Some x) before = ap (λ b. cond b r x) (le-leb r.stamp x.stamp (omega (arith, before)))

earliest-filter : (test : Row → Bool) (rows : List Row) → AreByStamp rows → earliest (filter test rows) ≡ find test rows
earliest-filter test [] rising = refl
earliest-filter test (r ∷ rows) rising = go (test r) (earliest-filter test rows (pairs_tail Before r rows rising))
  where
    go : (b : Bool) → earliest (filter test rows) ≡ find test rows → earliest (cond b (r ∷ filter test rows) (filter test rows)) ≡ cond b (Some r) (find test rows)
    go true more =
        ap Some (stays_earlier r (earliest (filter test rows))
        (earliest_holds (Before r) (filter test rows) (All-filter test (Before r) rows (pairs_head Before r rows rising))))
    go false more = more

-- what is found is the first row that matches
pub found_is_first : (rows : List Row) (directory : ℕ) (component : List ℕ) (fold : Bool) → AreByStamp rows
    → found_among rows directory component fold ≡ find (is_match directory component fold) rows
found_is_first rows directory component fold rising = earliest-filter (is_match directory component fold) rows rising

-- ---- rows that match have the hash

same_upper : (fold : Bool) (a b : ℕ) → same_byte fold a b ≡ true → upper a ≡ upper b
same_upper true a b same = eqb-true (upper a) (upper b) same
same_upper false a b same = ap upper (eqb-true a b same)

same_folded : (fold : Bool) (xs ys : List ℕ) → same_name fold xs ys ≡ true → map upper xs ≡ map upper ys
same_folded fold [] [] same = refl
same_folded fold [] (y ∷ ys) same = cc
same_folded fold (x ∷ xs) [] same = cc
same_folded fold (x ∷ xs) (y ∷ ys) same = go (same_byte fold x y) refl (same_folded fold xs ys) same
  where
    go : (b : Bool) → same_byte fold x y ≡ b → (same_name fold xs ys ≡ true → map upper xs ≡ map upper ys) → (b && same_name fold xs ys) ≡ true → upper x ∷ map upper xs ≡ upper y ∷ map upper ys
    go true first rest others = (λ i. same_upper fold x y first i ∷ rest others i)
    go false first rest others = cc

hash_of_both : (d e : ℕ) (fold : Bool) (xs ys : List ℕ) → d ≡ e → same_name fold xs ys ≡ true → row_hash d xs ≡ row_hash e ys
unfolding row_hash
hash_of_both d e fold xs ys is same = ap (λ n. folded_hash n (map upper xs)) is ∙ ap (folded_hash e) (same_folded fold xs ys same)

matched_hash : (directory : ℕ) (component : List ℕ) (fold : Bool) (r : Row) → is_match directory component fold r ≡ true → is_hashed (row_hash directory component) r ≡ true
matched_hash directory component fold r matches = go (r.directory == directory) (same_name fold r.name component) refl refl matches
  where
    go : (a b : Bool) → (r.directory == directory) ≡ a → same_name fold r.name component ≡ b → (a && b) ≡ true → is_hashed (row_hash directory component) r ≡ true
    go true true there same both = eq-eqb (row_hash r.directory r.name) (row_hash directory component) (hash_of_both r.directory directory fold r.name component (eqb-true r.directory directory there) same)
    go true false there same both = cc
    go false b there same both = cc

-- ---- what is found

module _ (row_at : ℕ → Option Row) (directory : ℕ) (component : List ℕ) (fold : Bool) (keeps : Row → Bool) (kept : (r : Row) → is_match directory component fold r ≡ true → keeps r ≡ true) where
  first_named-kept : (rows : List Row) → All (λ r. row_at r.stamp ≡ Some r) rows
      → first_named row_at directory component fold (map (λ r. r.stamp) (filter keeps rows)) ≡ find (is_match directory component fold) rows
  first_named-kept [] at = refl
  first_named-kept (r ∷ rows) at =
      go (keeps r) (is_match directory component fold r) refl refl (first_named-kept rows (All-tail (λ x. row_at x.stamp ≡ Some x) r rows at))
    where
      rest : Option Row
      rest = first_named row_at directory component fold (map (λ x. x.stamp) (filter keeps rows))

      joined : (b : Bool) → option_or (cond b (Some r) None) rest ≡ cond b (Some r) rest
      joined true = refl
      joined false = refl

      go : (a b : Bool) → keeps r ≡ a → is_match directory component fold r ≡ b → rest ≡ find (is_match directory component fold) rows
          → first_named row_at directory component fold (map (λ x. x.stamp) (cond a (r ∷ filter keeps rows) (filter keeps rows))) ≡ cond b (Some r) (find (is_match directory component fold) rows)
      go true b is_kept named more =
          ap (λ o. option_or (row_named directory component fold o) rest) (All-head (λ x. row_at x.stamp ≡ Some x) r rows at)
          ∙ ap (λ c. option_or (cond c (Some r) None) rest) named ∙ joined b ∙ ap (cond b (Some r)) more
      go false true is_kept named more = let no : keeps r ≡ true = kept r named in cc
      go false false is_kept named more = more

-- of the rows that have the component's hash, the first that matches is the first of all
pub first_named-hashed : (row_at : ℕ → Option Row) (directory : ℕ) (component : List ℕ) (fold : Bool) (rows : List Row) → All (λ r. row_at r.stamp ≡ Some r) rows
    → first_named row_at directory component fold (stamps_hashed rows (row_hash directory component)) ≡ find (is_match directory component fold) rows
first_named-hashed row_at directory component fold rows at =
    first_named-kept row_at directory component fold (is_hashed (row_hash directory component)) (matched_hash directory component fold) rows at

-- the stamp at a place is looked at, and then those after it
pub named_at : (row_at : ℕ → Option Row) (directory : ℕ) (component : List ℕ) (fold : Bool) (stamps : List ℕ) (i d : ℕ) → i < length stamps
    → first_named row_at directory component fold (drop i stamps)
    ≡ option_or (row_named directory component fold (row_at (get_or stamps i d))) (first_named row_at directory component fold (drop (i + 1) stamps))
named_at row_at directory component fold stamps i d within =
    ap (first_named row_at directory component fold) (drop-cons stamps i d within)
    ∙ ap (λ n. option_or (row_named directory component fold (row_at (get_or stamps i d))) (first_named row_at directory component fold (drop n stamps))) (sym (add-one i))
