-- Sorting by an order in which no two elements are equal: a list in order that has the elements of another one is that
-- one sorted.
use Rattle.std.proofs.Common.{◌≡◌, ◌∙◌, ℕ, zero, suc, ◌+◌, ◌<◌, Bool, true, false, cond, List, [], ◌∷◌, length, get_or, set, refl, ap, sym, subst, arith, inl, inr, ◌⊎◌, ◌==◌, eqb-true, eq-eqb, length-set, get_or-set_same, get_or-set_other}
use Rattle.std.specs.declared.cmp.Ordering.{Ordering}
use Rattle.std.specs.declared.cmp.Ordering.TheVariants.{Less, Equal, Greater}
use Rattle.std.specs.Ordering.{is_le, is_lt, ordering_reverse}
use Rattle.std.specs.Cmp.{IsTotalOrder}
use Rattle.std.specs.List.{swap}
use Rattle.std.specs.List.Sorted.{IsSorted, IsPermutation}
use Rattle.std.proofs.lemmas.List.Sorted.{IsPermutation-keeps}
use Rattle.ob_tree.specs.Index.{insert_ordered, ordered}

-- what a choice between two lists is, by its test
module _ {X : Type 0} (R : X → X → Ordering) (o : IsTotalOrder R) (same : (x y : X) → R x y ≡ Equal → x ≡ y) where
  le : X → X → Bool
  le x y = is_le (R x y)

  reversed : (r s : Ordering) → r ≡ ordering_reverse s → is_le s ≡ false → is_le r ≡ true
  reversed r Less e f = cc
  reversed r Equal e f = cc
  reversed r Greater e f = ap is_le e

  unless : (r s : Ordering) → r ≡ ordering_reverse s → is_lt s ≡ false → is_le r ≡ true
  unless r Less e f = cc
  unless r Equal e f = ap is_le e
  unless r Greater e f = ap is_le e

  turned : (x y : X) → is_le (R x y) ≡ false → is_le (R y x) ≡ true
  turned x y e = reversed (R y x) (R x y) (o.antisymm y x) e

  equal_both : (r s : Ordering) → r ≡ ordering_reverse s → is_le r ≡ true → is_le s ≡ true → r ≡ Equal
  equal_both r Less e f g = let h : is_le Greater ≡ true = ap is_le (sym e) ∙ f in cc
  equal_both r Equal e f g = e
  equal_both r Greater e f g = cc

  both : (x y : X) → is_le (R x y) ≡ true → is_le (R y x) ≡ true → x ≡ y
  both x y e f = same x y (equal_both (R x y) (R y x) (o.antisymm x y) e f)

  less_or_equal : (r : Ordering) → is_le r ≡ true → (r ≡ Less) ⊎ (r ≡ Equal)
  less_or_equal Less e = inl refl
  less_or_equal Equal e = inr refl
  less_or_equal Greater e = cc

  onward : (x y z : X) → is_le (R x y) ≡ true → is_le (R y z) ≡ true → is_le (R x z) ≡ true
  onward x y z e f =
      elim (less_or_equal (R x y) e) [
        | inl less ↦ elim (less_or_equal (R y z) f) [
          | inl lesser ↦ ap is_le (o.trans x y z less lesser)
          | inr equal ↦ ap (λ w. is_le (R x w)) (sym (same y z equal)) ∙ e
        ]
        | inr equal ↦ ap (λ w. is_le (R w z)) (same x y equal) ∙ f
      ]

  ins : X → List X → List X
  ins = insert_ordered R

  front : (x y : X) (ys : List X) → is_le (R x y) ≡ true → insert_ordered R x (y ∷ ys) ≡ x ∷ y ∷ ys
  front x y ys e = ap (λ b. cond b (x ∷ y ∷ ys) (y ∷ insert_ordered R x ys)) e

  behind : (x y : X) (ys : List X) → is_le (R x y) ≡ false → insert_ordered R x (y ∷ ys) ≡ y ∷ insert_ordered R x ys
  behind x y ys e = ap (λ b. cond b (x ∷ y ∷ ys) (y ∷ insert_ordered R x ys)) e

  -- two that both come first
  both_first : (a b : X) (l : List X) → insert_ordered R a l ≡ a ∷ l → insert_ordered R b l ≡ b ∷ l → insert_ordered R a (b ∷ l) ≡ insert_ordered R b (a ∷ l)
  both_first a b l at_a at_b = go (is_le (R a b)) refl (is_le (R b a)) refl
    where
      go : (s : Bool) → is_le (R a b) ≡ s → (t : Bool) → is_le (R b a) ≡ t → insert_ordered R a (b ∷ l) ≡ insert_ordered R b (a ∷ l)
      go true e true f = ap (λ w. insert_ordered R w (b ∷ l)) (both a b e f) ∙ sym (ap (λ w. insert_ordered R b (w ∷ l)) (both a b e f))
      go true e false f = front a b l e ∙ sym (behind b a l f ∙ ap (λ (xs : List X). a ∷ xs) at_b)
      go false e true f = behind a b l e ∙ ap (λ (xs : List X). b ∷ xs) at_a ∙ sym (front b a l f)
      go false e false f = absurd (let h : is_le (R b a) ≡ true = turned a b e in cc)

  one_first : (a b y : X) (ys : List X) → is_le (R a y) ≡ true → is_le (R b y) ≡ false → insert_ordered R a (insert_ordered R b (y ∷ ys)) ≡ insert_ordered R b (insert_ordered R a (y ∷ ys))
  one_first a b y ys e f =
      ap (insert_ordered R a) (behind b y ys f) ∙ front a y (insert_ordered R b ys) e
      ∙ sym (ap (insert_ordered R b) (front a y ys e) ∙ behind b a (y ∷ ys) (go (is_le (R b a)) refl) ∙ ap (λ (xs : List X). a ∷ xs) (behind b y ys f))
    where
      go : (t : Bool) → is_le (R b a) ≡ t → is_le (R b a) ≡ false
      go true g = absurd (let h : is_le (R b y) ≡ true = onward b a y g e in cc)
      go false g = g

  -- the order in which two are put in makes no difference
  pub commute : (a b : X) (l : List X) → insert_ordered R a (insert_ordered R b l) ≡ insert_ordered R b (insert_ordered R a l)
  commute a b [] = both_first a b [] refl refl
  commute a b (y ∷ ys) = go (is_le (R a y)) refl (is_le (R b y)) refl (commute a b ys)
    where
      go : (s : Bool) → is_le (R a y) ≡ s → (t : Bool) → is_le (R b y) ≡ t → insert_ordered R a (insert_ordered R b ys) ≡ insert_ordered R b (insert_ordered R a ys)
          → insert_ordered R a (insert_ordered R b (y ∷ ys)) ≡ insert_ordered R b (insert_ordered R a (y ∷ ys))
      go true e true f further =
          ap (insert_ordered R a) (front b y ys f) ∙ both_first a b (y ∷ ys) (front a y ys e) (front b y ys f) ∙ sym (ap (insert_ordered R b) (front a y ys e))
      go true e false f further = one_first a b y ys e f
      go false e true f further = sym (one_first b a y ys f e)
      go false e false f further =
          ap (insert_ordered R a) (behind b y ys f) ∙ behind a y (insert_ordered R b ys) e ∙ ap (λ (xs : List X). y ∷ xs) further
          ∙ sym (ap (insert_ordered R b) (behind a y ys e) ∙ behind b y (insert_ordered R a ys) f)

  -- one element in the place of another
  replaced : (l : List X) (i : ℕ) (v d : X) → i < length l → insert_ordered R (get_or l i d) (ordered R (set l i v)) ≡ insert_ordered R v (ordered R l)
  replaced [] i v d within = absurd (omega (arith, within))
  replaced (x ∷ xs) zero v d within = commute x v (ordered R xs)
  replaced (x ∷ xs) (suc i) v d within =
      commute (get_or xs i d) x (ordered R (set xs i v)) ∙ ap (insert_ordered R x) (replaced xs i v d (omega (arith, within))) ∙ commute x v (ordered R xs)

  own_le : (x : X) → is_le (R x x) ≡ true
  own_le x = go (is_le (R x x)) refl
    where
      go : (t : Bool) → is_le (R x x) ≡ t → is_le (R x x) ≡ true
      go true e = e
      go false e = turned x x e

  never_none : (x : X) (l : List X) (A : Type 0) → insert_ordered R x l ≡ [] → A
  never_none x [] A e = absurd (let h : x ∷ [] ≡ [] = e in cc)
  never_none x (y ∷ ys) A e = go (is_le (R x y)) refl
    where
      go : (t : Bool) → is_le (R x y) ≡ t → A
      go true f = absurd (let h : x ∷ y ∷ ys ≡ [] = sym (front x y ys f) ∙ e in cc)
      go false f = absurd (let h : y ∷ insert_ordered R x ys ≡ [] = sym (behind x y ys f) ∙ e in cc)

  -- what one element was put into is known by the result
  pub taken_back : (x : X) (l m : List X) → insert_ordered R x l ≡ insert_ordered R x m → l ≡ m
  taken_back x [] [] e = refl
  taken_back x [] (q ∷ qs) e = go (is_le (R x q)) refl
    where
      go : (t : Bool) → is_le (R x q) ≡ t → [] ≡ q ∷ qs
      go true f = absurd (let h : x ∷ [] ≡ x ∷ q ∷ qs = e ∙ front x q qs f in cc)
      go false f = never_none x qs ([] ≡ q ∷ qs) (let h : x ∷ [] ≡ q ∷ insert_ordered R x qs = e ∙ behind x q qs f in cc)
  taken_back x (p ∷ ps) [] e = go (is_le (R x p)) refl
    where
      go : (t : Bool) → is_le (R x p) ≡ t → p ∷ ps ≡ []
      go true f = absurd (let h : x ∷ [] ≡ x ∷ p ∷ ps = sym e ∙ front x p ps f in cc)
      go false f = never_none x ps (p ∷ ps ≡ []) (let h : x ∷ [] ≡ p ∷ insert_ordered R x ps = sym e ∙ behind x p ps f in cc)
  taken_back x (p ∷ ps) (q ∷ qs) e = go (is_le (R x p)) refl (is_le (R x q)) refl (taken_back x ps qs)
    where
      go : (s : Bool) → is_le (R x p) ≡ s → (t : Bool) → is_le (R x q) ≡ t → (insert_ordered R x ps ≡ insert_ordered R x qs → ps ≡ qs) → p ∷ ps ≡ q ∷ qs
      go true f true g further = let h : x ∷ p ∷ ps ≡ x ∷ q ∷ qs = sym (front x p ps f) ∙ e ∙ front x q qs g in cc
      go true f false g further =
          let h : x ∷ p ∷ ps ≡ q ∷ insert_ordered R x qs = sym (front x p ps f) ∙ e ∙ behind x q qs g in
          let at : x ≡ q = cc in
          absurd (let i : is_le (R x q) ≡ true = ap (λ w. is_le (R x w)) (sym at) ∙ own_le x in cc)
      go false f true g further =
          let h : p ∷ insert_ordered R x ps ≡ x ∷ q ∷ qs = sym (behind x p ps f) ∙ e ∙ front x q qs g in
          let at : x ≡ p = cc in
          absurd (let i : is_le (R x p) ≡ true = ap (λ w. is_le (R x w)) (sym at) ∙ own_le x in cc)
      go false f false g further =
          let h : p ∷ insert_ordered R x ps ≡ q ∷ insert_ordered R x qs = sym (behind x p ps f) ∙ e ∙ behind x q qs g in
          let left : insert_ordered R x ps ≡ insert_ordered R x qs = cc in
          let rest : ps ≡ qs = further left in cc

  -- two elements change their places
  swapped : (l : List X) (i j : ℕ) → i < length l → j < length l → ordered R (swap l i j) ≡ ordered R l
  swapped [] i j within there = refl
  swapped (d ∷ ys) i j within there =
      let l : List X = d ∷ ys in
      let u : List X = set l i (get_or l j d) in
      let first : insert_ordered R (get_or l i d) (ordered R u) ≡ insert_ordered R (get_or l j d) (ordered R l) = replaced l i (get_or l j d) d within in
      let second : insert_ordered R (get_or u j d) (ordered R (set u j (get_or l i d))) ≡ insert_ordered R (get_or l i d) (ordered R u) = replaced u j (get_or l i d) d (omega (arith, there, length-set {A = X})) in
      let at : get_or u j d ≡ get_or l j d = go (i == j) refl in
      taken_back (get_or l j d) (ordered R (swap l i j)) (ordered R l) (ap (λ w. insert_ordered R w (ordered R (swap l i j))) (sym at) ∙ second ∙ first)
    where
      go : (t : Bool) → (i == j) ≡ t → get_or (set (d ∷ ys) i (get_or (d ∷ ys) j d)) j d ≡ get_or (d ∷ ys) j d
      go true e = let h : i ≡ j = eqb-true i j e in subst (λ n. get_or (set (d ∷ ys) n (get_or (d ∷ ys) j d)) j d ≡ get_or (d ∷ ys) j d) (sym h) (get_or-set_same (d ∷ ys) j (get_or (d ∷ ys) j d) d there)
      go false e = get_or-set_other (d ∷ ys) i j (get_or (d ∷ ys) j d) d (λ h. let f : (i == j) ≡ true = eq-eqb i j (sym h) in cc)

  -- a list in order is itself when it is sorted
  in_order_stays : (l : List X) → IsSorted R l → ordered R l ≡ l
  in_order_stays [] up = refl
  in_order_stays (x ∷ xs) up = ap (insert_ordered R x) (in_order_stays xs (λ k d low high. subst (λ n. is_lt (R (get_or (x ∷ xs) n d) (get_or xs k d)) ≡ false) (next k) (up (suc k) d (omega arith) (omega (arith, high))))) ∙ first xs up
    where
      next : (k : ℕ) → suc k + 1 ≡ suc (k + 1)
      next k = omega arith

      first : (xs : List X) → IsSorted R (x ∷ xs) → insert_ordered R x xs ≡ x ∷ xs
      first [] up = refl
      first (y ∷ ys) up = front x y ys (unless (R x y) (R y x) (o.antisymm x y) (up 0 x (omega arith) (omega arith)))

  pub sorted_alone : (xs ys : List X) → IsPermutation xs ys → IsSorted R ys → ys ≡ ordered R xs
  sorted_alone xs ys moved up =
      sym (in_order_stays ys up) ∙ IsPermutation-keeps xs (λ l. ordered R l ≡ ordered R xs) refl (λ l i j within there h. swapped l i j within there ∙ h) ys moved
