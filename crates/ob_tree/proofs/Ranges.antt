-- The entries of one directory, among entries in order.
use Rattle.std.proofs.Common.{◌≡◌, ◌∙◌, ℕ, zero, suc, ◌+◌, ◌<◌, ◌≤◌, Bool, true, false, cond, List, [], ◌∷◌, length, get_or, take, drop, refl, ap, sym, arith, ◌==◌, nat_lt, nat_le, eq-eqb, ltb-true, ltb-false, filter, map}
use Rattle.std.specs.declared.cmp.Ordering.{Ordering}
use Rattle.std.specs.declared.cmp.Ordering.TheVariants.{Less, Equal, Greater}
use Rattle.std.specs.Ordering.{nat_cmp, ordering_then, is_lt}
use Rattle.std.specs.Cmp.{IsTotalOrder, then_total, on_total, nat_cmp_total}
use Rattle.std.specs.Cmp.Lexicographic.{slice_cmp, nat_list_cmp_total}
use Rattle.std.specs.FinMap.{nat_cmp-IsAntisymmetric, slice_cmp-IsAntisymmetric}
use Rattle.std.specs.List.{AllWithin}
use Rattle.std.specs.List.Sorted.{IsSorted, IsPermutation, IsNonDecreasingBy}
use Rattle.std.proofs.lemmas.List.Sorted.{IsPermutation-map, IsNonDecreasingBy-from_all_adjacent}
use Rattle.std.proofs.lemmas.List.{get_or-map, length-map}
use Rattle.std.proofs.lemmas.Bool.{ne_eqb, leb-true, leb-false, le-leb}
use Rattle.ob_tree.specs.declared.entries.Entry.{Entry}
use Rattle.ob_tree.specs.Index.{Named, named_by, name_order, entry_order, AreInOrder, in_order}
use Rattle.ob_tree.proofs.Sorting.{sorted_alone}

name_total : IsTotalOrder name_order
name_total = then_total (on_total (λ (n : Named). n.directory) nat_cmp_total) (then_total (on_total (λ (n : Named). n.name) nat_list_cmp_total) (on_total (λ (n : Named). n.object) nat_cmp_total))

then_equal : (r s : Ordering) → ordering_then r s ≡ Equal → (r ≡ Equal) × (s ≡ Equal)
then_equal Less s e = cc
then_equal Equal s e = (refl, e)
then_equal Greater s e = cc

name_same : (x y : Named) → name_order x y ≡ Equal → x ≡ y
name_same x y e =
    let parts = then_equal (nat_cmp x.directory y.directory) (ordering_then (slice_cmp nat_cmp x.name y.name) (nat_cmp x.object y.object)) e in
    let more = then_equal (slice_cmp nat_cmp x.name y.name) (nat_cmp x.object y.object) parts.1 in
    let d : x.directory ≡ y.directory = nat_cmp-IsAntisymmetric x.directory y.directory parts.0 in
    let n : x.name ≡ y.name = slice_cmp-IsAntisymmetric nat_cmp-IsAntisymmetric x.name y.name more.0 in
    let o : x.object ≡ y.object = nat_cmp-IsAntisymmetric x.object y.object more.1 in
    let f : ℕ → List ℕ → ℕ → Named = λ a b c. record { directory = a; name = b; object = c } in
    ap (λ a. f a x.name x.object) d ∙ ap (λ (b : List ℕ). f y.directory b x.object) n ∙ ap (λ c. f y.directory y.name c) o

names_sorted : (es : List Entry) → AreInOrder es → IsSorted name_order (map named_by es)
names_sorted [] up k d low high = absurd (omega (arith, high))
names_sorted (e ∷ es) up k d low high =
    let within : k + 1 < length (e ∷ es) = omega (arith, high, length-map (e ∷ es) named_by) in
    let first = get_or-map named_by (e ∷ es) (k + 1) e d within in
    let second = get_or-map named_by (e ∷ es) k e d (omega (arith, within)) in
    ap (λ a. is_lt (name_order a (get_or (map named_by (e ∷ es)) k d))) first
    ∙ ap (λ b. is_lt (name_order (named_by (get_or (e ∷ es) (k + 1) e)) b)) second ∙ up k e low within

-- entries that were sorted are those of their names in order
pub sorted_names : (es fs : List Entry) → IsPermutation es fs → AreInOrder fs → map named_by fs ≡ in_order (map named_by es)
sorted_names es fs moved up = sorted_alone name_order name_total name_same (map named_by es) (map named_by fs) (IsPermutation-map named_by es fs moved) (names_sorted fs up)

-- the directories of entries in order rise
pub directories_rise : (es : List Entry) → AreInOrder es → IsNonDecreasingBy (λ e. e.directory) es
directories_rise es up = IsNonDecreasingBy-from_all_adjacent (λ e. e.directory) es (λ k d high. least (get_or es k d) (get_or es (k + 1) d) (up k d (omega arith) high))
  where
    least : (a b : Entry) → is_lt (entry_order b a) ≡ false → a.directory ≤ b.directory
    least a b e = go (nat_lt b.directory a.directory) refl e
      where
        go : (t : Bool) → nat_lt b.directory a.directory ≡ t → is_lt (ordering_then (cond t Less (cond (b.directory == a.directory) Equal Greater)) (ordering_then (slice_cmp nat_cmp b.name.now a.name.now) (nat_cmp b.object a.object))) ≡ false → a.directory ≤ b.directory
        go true f e = cc
        go false f e = ltb-false b.directory a.directory f

module _ {X : Type 0} (key : X → ℕ) (d : ℕ) where
  pub parted_range : (xs : List X) (lo k : ℕ)
      → AllWithin (λ x. nat_lt (key x) d ≡ true) xs 0 lo → AllWithin (λ x. nat_lt (key x) d ≡ false) xs lo (length xs)
      → AllWithin (λ x. nat_le (key x) d ≡ true) xs 0 (lo + k) → AllWithin (λ x. nat_le (key x) d ≡ false) xs (lo + k) (length xs)
      → take k (drop lo xs) ≡ filter (λ x. key x == d) xs
  parted_range [] zero zero a b e f = refl
  parted_range [] zero (suc k) a b e f = refl
  parted_range [] (suc lo) zero a b e f = refl
  parted_range [] (suc lo) (suc k) a b e f = refl
  parted_range (x ∷ xs) (suc lo) k a b e f =
      parted_range xs lo k
      (λ j y low high. a (suc j) y (omega arith) (omega (arith, high))) (λ j y low high. b (suc j) y (omega (arith, low)) (omega (arith, high)))
      (λ j y low high. e (suc j) y (omega arith) (omega (arith, high))) (λ j y low high. f (suc j) y (omega (arith, low)) (omega (arith, high)))
      ∙ sym (ap (λ t. cond t (x ∷ filter (λ y. key y == d) xs) (filter (λ y. key y == d) xs)) (ne_eqb (key x) d (let less : key x < d = ltb-true (key x) d (a 0 x (omega arith) (omega arith)) in λ same. omega (arith, less, same))))
  parted_range (x ∷ xs) zero (suc k) a b e f =
      ap (λ (ys : List X). x ∷ ys)
      (parted_range xs zero k (λ j y low high. absurd (omega (arith, high))) (λ j y low high. b (suc j) y (omega arith) (omega (arith, high)))
      (λ j y low high. e (suc j) y (omega arith) (omega (arith, high))) (λ j y low high. f (suc j) y (omega (arith, low)) (omega (arith, high))))
      ∙ sym (ap (λ t. cond t (x ∷ filter (λ y. key y == d) xs) (filter (λ y. key y == d) xs))
      (let least : d ≤ key x = ltb-false (key x) d (b 0 x (omega arith) (omega arith)) in let most : key x ≤ d = leb-true (key x) d (e 0 x (omega arith) (omega arith)) in eq-eqb (key x) d (omega (arith, least, most))))
  parted_range (x ∷ xs) zero zero a b e f =
      parted_range xs zero zero (λ j y low high. absurd (omega (arith, high))) (λ j y low high. b (suc j) y (omega arith) (omega (arith, high)))
      (λ j y low high. absurd (omega (arith, high))) (λ j y low high. f (suc j) y (omega arith) (omega (arith, high)))
      ∙ sym (ap (λ t. cond t (x ∷ filter (λ y. key y == d) xs) (filter (λ y. key y == d) xs))
      (ne_eqb (key x) d (let more : d < key x = leb-false (key x) d (f 0 x (omega arith) (omega arith)) in λ same. omega (arith, more, same))))

  -- the same from two places, of which the second may be below the first
  pub range_between : (xs : List X) (lo hi k : ℕ) → hi ≤ lo + k → (lo ≤ hi → lo + k ≡ hi) → (hi < lo → k ≡ 0) → lo ≤ length xs
      → AllWithin (λ x. nat_lt (key x) d ≡ true) xs 0 lo → AllWithin (λ x. nat_lt (key x) d ≡ false) xs lo (length xs)
      → AllWithin (λ x. nat_le (key x) d ≡ true) xs 0 hi → AllWithin (λ x. nat_le (key x) d ≡ false) xs hi (length xs)
      → take k (drop lo xs) ≡ filter (λ x. key x == d) xs
  range_between xs lo hi k most at none within a b e f =
      parted_range xs lo k a b (λ j y low high. first j y high (nat_lt j hi) refl) (λ j y low high. f j y (omega (arith, most, low)) high)
    where
      at_most : (n : ℕ) → n < d → nat_le n d ≡ true
      at_most n less = le-leb n d (omega (arith, less))

      below : (j : ℕ) → j < lo + k → hi ≤ j → (t : Bool) → nat_lt hi lo ≡ t → j < lo
      below j high behind true g = let zero_more : k ≡ 0 = none (ltb-true hi lo g) in omega (arith, high, zero_more)
      below j high behind false g = let all : lo + k ≡ hi = at (ltb-false hi lo g) in omega (arith, high, behind, all)

      first : (j : ℕ) (y : X) → j < lo + k → (t : Bool) → nat_lt j hi ≡ t → nat_le (key (get_or xs j y)) d ≡ true
      first j y high true g = e j y (omega arith) (ltb-true j hi g)
      first j y high false g =
          let behind : hi ≤ j = ltb-false j hi g in
          at_most (key (get_or xs j y)) (ltb-true (key (get_or xs j y)) d (a j y (omega arith) (below j high behind (nat_lt hi lo) refl)))

-- names of entries that pass, and entries that pass
pub named_filter : (d : ℕ) (es : List Entry) → map named_by (filter (λ e. e.directory == d) es) ≡ filter (λ n. n.directory == d) (map named_by es)
named_filter d [] = refl
named_filter d (e ∷ es) = go (e.directory == d) (named_filter d es)
  where
    go : (t : Bool) → map named_by (filter (λ e. e.directory == d) es) ≡ filter (λ n. n.directory == d) (map named_by es)
        → map named_by (cond t (e ∷ filter (λ e. e.directory == d) es) (filter (λ e. e.directory == d) es)) ≡ cond t (named_by e ∷ filter (λ n. n.directory == d) (map named_by es)) (filter (λ n. n.directory == d) (map named_by es))
    go true is = ap (λ (ns : List Named). named_by e ∷ ns) is
    go false is = is
