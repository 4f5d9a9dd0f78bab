-- What is found among elements by rising numbers.
use Rattle.std.proofs.Common.{◌≡◌, ◌∙◌, ℕ, zero, suc, ◌+◌, ◌<◌, ◌≤◌, Bool, true, false, cond, List, [], ◌∷◌, length, get_or, refl, ap, sym, subst, arith, ◌==◌, nat_lt, eq-eqb, ltb-true, ltb-false, find, Some, None, count_by, zero-add, map}
use Rattle.std.proofs.lemmas.Bool.{ne_eqb}
use Rattle.std.proofs.lemmas.List.Sums.{sum_by-cons}
use Rattle.std.proofs.lemmas.List.{get_or_default, get_or-map, length-map}
use Rattle.std.specs.List.{AllWithin}
use Rattle.std.specs.Prelude.{AllPairs}
use Rattle.std.specs.List.Sorted.{IsNonDecreasingBy}

-- elements that rise by a number
pub non_decreasing : {X : Type 0} (key : X → ℕ) (xs : List X) → AllPairs (λ a b. key a < key b) xs → IsNonDecreasingBy key xs
non_decreasing {X} key xs rise i j d low high = go (nat_lt i j) refl
  where
    go : (t : Bool) → nat_lt i j ≡ t → key (get_or xs i d) ≤ key (get_or xs j d)
    go true e = let less : key (get_or xs i d) < key (get_or xs j d) = rise i j d (ltb-true i j e) high in omega (arith, less)
    go false e = let same : i ≡ j = (let most : j ≤ i = ltb-false i j e in omega (arith, low, most)) in let equal : key (get_or xs i d) ≡ key (get_or xs j d) = ap (λ k. key (get_or xs k d)) same in omega (arith, equal)

-- and their numbers
pub numbers_rise : {X : Type 0} (key : X → ℕ) (xs : List X) → AllPairs (λ a b. key a < key b) xs → IsNonDecreasingBy (λ n. n) (map key xs)
numbers_rise key [] rise i j d low high = absurd (omega (arith, high))
numbers_rise key (x ∷ xs) rise i j d low high =
    let within : j < length (x ∷ xs) = omega (arith, high, length-map (x ∷ xs) key) in
    let first = get_or-map key (x ∷ xs) i x d (omega (arith, low, within)) in
    let second = get_or-map key (x ∷ xs) j x d within in
    let less = non_decreasing key (x ∷ xs) rise i j x low within in
    omega (arith, first, second, less)

module _ {X : Type 0} (p : X → Bool) where
  pub find_none : (xs : List X) → ((j : ℕ) (y : X) → j < length xs → p (get_or xs j y) ≡ false) → find p xs ≡ None
  find_none [] none = refl
  find_none (x ∷ xs) none =
      ap (λ t. cond t (Some x) (find p xs)) (none 0 x (omega arith)) ∙ find_none xs (λ j y within. none (suc j) y (omega (arith, within)))

  pub find_at : (xs : List X) (i : ℕ) (x : X) → i < length xs → ((j : ℕ) (y : X) → j < i → p (get_or xs j y) ≡ false) → x ≡ get_or xs i x → p x ≡ true → find p xs ≡ Some x
  find_at [] i x within before at passes = absurd (omega (arith, within))
  find_at (y ∷ ys) zero x within before at passes = ap (λ z. cond (p z) (Some z) (find p ys)) (sym at) ∙ ap (λ t. cond t (Some x) (find p ys)) passes
  find_at (y ∷ ys) (suc i) x within before at passes =
      ap (λ t. cond t (Some y) (find p ys)) (before 0 y (omega arith)) ∙ find_at ys i x (omega (arith, within)) (λ j z less. before (suc j) z (omega (arith, less))) at passes

  -- as many elements pass as come before a place
  pub count_parted : (xs : List X) (i : ℕ) → i ≤ length xs → AllWithin (λ x. p x ≡ true) xs 0 i → AllWithin (λ x. p x ≡ false) xs i (length xs) → i ≡ count_by p xs
  count_parted [] i within before from = omega (arith, within)
  count_parted (x ∷ xs) zero within before from =
      count_parted xs zero (omega arith) (λ j y low high. absurd (omega (arith, high))) (λ j y low high. from (suc j) y (omega arith) (omega (arith, high)))
      ∙ sym (sum_by-cons (λ x. cond (p x) 1 0) x xs ∙ ap (λ t. cond t 1 0 + count_by p xs) (from 0 x (omega arith) (omega arith)) ∙ zero-add (count_by p xs))
  count_parted (x ∷ xs) (suc i) within before from =
      let more : i ≡ count_by p xs = count_parted xs i (omega (arith, within)) (λ j y low high. before (suc j) y (omega arith) (omega (arith, high))) (λ j y low high. from (suc j) y (omega (arith, low)) (omega (arith, high))) in
      let whole : count_by p (x ∷ xs) ≡ 1 + count_by p xs = sum_by-cons (λ x. cond (p x) 1 0) x xs ∙ ap (λ t. cond t 1 0 + count_by p xs) (before 0 x (omega arith) (omega arith)) in omega (arith, more, whole)

module _ {X : Type 0} (key : X → ℕ) (n : ℕ) (xs : List X) (rise : IsNonDecreasingBy key xs) (i : ℕ)
    (before : AllWithin (λ x. nat_lt (key x) n ≡ true) xs 0 i) (from : AllWithin (λ x. nat_lt (key x) n ≡ false) xs i (length xs)) where
  less_before : (j : ℕ) (y : X) → j < i → (key (get_or xs j y) == n) ≡ false
  less_before j y below = ne_eqb (key (get_or xs j y)) n (let less : key (get_or xs j y) < n = ltb-true (key (get_or xs j y)) n (before j y (omega arith) below) in λ same. omega (arith, less, same))

  pub found_there : (x : X) → i < length xs → x ≡ get_or xs i x → (key x == n) ≡ true → find (λ y. key y == n) xs ≡ Some x
  found_there x within at same = find_at (λ y. key y == n) xs i x within less_before at same

  pub none_at_end : length xs ≤ i → find (λ y. key y == n) xs ≡ None
  none_at_end end = find_none (λ y. key y == n) xs (λ j y within. less_before j y (omega (arith, within, end)))

  pub none_there : (x : X) → i < length xs → x ≡ get_or xs i x → (key x == n) ≡ false → find (λ y. key y == n) xs ≡ None
  none_there x within at other = find_none (λ y. key y == n) xs (λ j y there. go j y there (nat_lt j i) refl)
    where
      here : n ≤ key x
      here = subst (λ w. n ≤ key w) (sym at) (ltb-false (key (get_or xs i x)) n (from i x (omega arith) within))

      above : n < key x
      above = go (nat_lt n (key x)) refl
        where
          go : (t : Bool) → nat_lt n (key x) ≡ t → n < key x
          go true e = ltb-true n (key x) e
          go false e = absurd (let low : key x ≤ n = ltb-false n (key x) e in let same : (key x == n) ≡ true = eq-eqb (key x) n (omega (arith, low, here)) in cc)

      go : (j : ℕ) (y : X) → j < length xs → (t : Bool) → nat_lt j i ≡ t → (key (get_or xs j y) == n) ≡ false
      go j y there true e = less_before j y (ltb-true j i e)
      go j y there false e =
          let more : key (get_or xs i y) ≤ key (get_or xs j y) = rise i j y (ltb-false j i e) there in
          let same : get_or xs i y ≡ x = get_or_default xs i y x within ∙ sym at in
          let equal_keys : key (get_or xs i y) ≡ key x = ap key same in
          ne_eqb (key (get_or xs j y)) n (λ equal. omega (arith, above, more, equal, equal_keys))
