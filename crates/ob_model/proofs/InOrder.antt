-- A list by rising numbers with one element more: what is the same of it, wherever the element stands.
use Rattle.std.proofs.Common.{◌≡◌, ◌≢◌, ◌∙◌, ℕ, suc, ◌<◌, ◌≤◌, ◌==◌, Bool, true, false, cond, not, nat_lt, List, [], ◌∷◌, ◌++◌, length, filter, find, map, Option, None, Some, All, refl, ap, sym, arith, eq-eqb, eqb-true}
use Rattle.std.specs.List.{AllPairs}
use Rattle.std.specs.Option.{option_or}
use Rattle.std.proofs.lemmas.Bool.{ne_eqb}
use Rattle.std.proofs.lemmas.Bool.Decides.{nat_tests}
use Rattle.std.proofs.lemmas.List.Elements.{All-nil, All-cons, All-head, All-tail, All-weaker}
use Rattle.std.proofs.lemmas.List.Kept.{AllPairs-cons}
use Rattle.ob_model.specs.State.{in_order}
use Rattle.ob_model.proofs.Finds.{filter_all, find_none}

-- ---- tests of numbers

lt_true : (m n : ℕ) → nat_lt m n ≡ true → m < n
lt_true m n e = grind (arith, nat_tests)

lt_false : (m n : ℕ) → nat_lt m n ≡ false → n ≤ m
lt_false m n e = grind (arith, nat_tests)

above_is_not_less : (m n : ℕ) → m < n → nat_lt n m ≡ false
above_is_not_less m n less = grind (arith, nat_tests)

other_is_below : (m n : ℕ) → n ≤ m → (n == m) ≡ false → n < m
other_is_below m n most other = grind (arith, nat_tests)

pub below_is_other : (m n : ℕ) → m < n → (m == n) ≡ false
below_is_other m n less = grind (arith, nat_tests)

-- what is found in one list or else in another, where the other has nothing
or_none : {X : Type 0} (o : Option X) → option_or o None ≡ o
or_none None = refl
or_none (Some x) = refl

module _ {X : Type 0} (number : X → ℕ) where
  -- no element has the number of x
  abbrev pub IsFree : X → List X → Type 0
  IsFree x xs = All (λ y. (number y == number x) ≡ false) xs

  pub free_from_other : (x : X) (xs : List X) → All (λ y. number y ≢ number x) xs → IsFree x xs
  free_from_other x xs other = All-weaker (λ y. number y ≢ number x) (λ y. (number y == number x) ≡ false) (λ y differ. ne_eqb (number y) (number x) differ) xs other

  -- a number above all is free
  pub newest_is_free : (x : X) (xs : List X) → All (λ y. number y < number x) xs → IsFree x xs
  newest_is_free x xs below = All-weaker (λ y. number y < number x) (λ y. (number y == number x) ≡ false) (λ y less. below_is_other (number y) (number x) less) xs below

  -- and its element comes last
  pub newest_is_last : (x : X) (xs : List X) → All (λ y. number y < number x) xs → in_order number x xs ≡ xs ++ x ∷ []
  newest_is_last x [] below = refl
  newest_is_last x (y ∷ ys) below =
      ap (λ t. cond t (x ∷ y ∷ ys) (y ∷ in_order number x ys)) (above_is_not_less (number y) (number x) (All-head (λ z. number z < number x) y ys below))
      ∙ ap (λ zs. y ∷ zs) (newest_is_last x ys (All-tail (λ z. number z < number x) y ys below))

  -- there is one more
  pub in_order-length : (x : X) (xs : List X) → length (in_order number x xs) ≡ suc (length xs)
  in_order-length x [] = refl
  in_order-length x (y ∷ ys) = go (nat_lt (number x) (number y)) (in_order-length x ys)
    where
      go : (t : Bool) → length (in_order number x ys) ≡ suc (length ys) → length (cond t (x ∷ y ∷ ys) (y ∷ in_order number x ys)) ≡ suc (suc (length ys))
      go true more = refl
      go false more = ap suc more

  -- what holds of all and of one more holds of all with it
  pub in_order-All : (P : X → Type 0) (x : X) (xs : List X) → P x → All P xs → All P (in_order number x xs)
  in_order-All P x [] here all = All-cons P x [] here all
  in_order-All P x (y ∷ ys) here all = go (nat_lt (number x) (number y)) (in_order-All P x ys here (All-tail P y ys all))
    where
      go : (t : Bool) → All P (in_order number x ys) → All P (cond t (x ∷ y ∷ ys) (y ∷ in_order number x ys))
      go true more = All-cons P x (y ∷ ys) here all
      go false more = All-cons P y (in_order number x ys) (All-head P y ys all) more

  -- ---- numbers that rise still do

  abbrev Rises : List X → Type 0
  Rises [] = Unit {0}
  Rises (y ∷ ys) = All (λ z. number y < number z) ys × Rises ys

  rises_from_pairs : (xs : List X) → AllPairs (λ a b. number a < number b) xs → Rises xs
  rises_from_pairs [] rising = tt
  rises_from_pairs (y ∷ ys) rising =
      ((λ k d within. rising 0 (suc k) d (omega arith) (omega (arith, within))), rises_from_pairs ys (λ i j d before within. rising (suc i) (suc j) d (omega (arith, before)) (omega (arith, within))))

  pairs_from_rises : (xs : List X) → Rises xs → AllPairs (λ a b. number a < number b) xs
  pairs_from_rises [] rises = λ i j d before within. absurd (omega (arith, within))
  pairs_from_rises (y ∷ ys) rises = AllPairs-cons (λ a b. number a < number b) y ys rises.0 (pairs_from_rises ys rises.1)

  in_order-Rises : (x : X) (xs : List X) → IsFree x xs → Rises xs → Rises (in_order number x xs)
  in_order-Rises x [] free rises = (All-nil (λ z. number x < number z), tt)
  in_order-Rises x (y ∷ ys) free rises =
      go (nat_lt (number x) (number y)) refl (in_order-Rises x ys (All-tail (λ z. (number z == number x) ≡ false) y ys free) rises.1)
    where
      go : (t : Bool) → nat_lt (number x) (number y) ≡ t → Rises (in_order number x ys) → Rises (cond t (x ∷ y ∷ ys) (y ∷ in_order number x ys))
      go true e more =
          let less : number x < number y = lt_true (number x) (number y) e in
          (All-cons (λ z. number x < number z) y ys less (All-weaker (λ z. number y < number z) (λ z. number x < number z) (λ z behind. omega (arith, less, behind)) ys rises.0), rises)
      go false e more =
          let less : number y < number x = other_is_below (number x) (number y) (lt_false (number x) (number y) e) (All-head (λ z. (number z == number x) ≡ false) y ys free) in
          (in_order-All (λ z. number y < number z) x ys less rises.0, more)

  pub in_order-rising : (x : X) (xs : List X) → IsFree x xs → AllPairs (λ a b. number a < number b) xs → AllPairs (λ a b. number a < number b) (in_order number x xs)
  in_order-rising x xs free rising = pairs_from_rises (in_order number x xs) (in_order-Rises x xs free (rises_from_pairs xs rising))

  -- ---- what is found, and what a filter keeps

  -- a test that one more fails finds what it found
  pub in_order-others : (test : X → Bool) (x : X) (xs : List X) → test x ≡ false → find test (in_order number x xs) ≡ find test xs
  in_order-others test x [] fails = ap (λ t. cond t (Some x) None) fails
  in_order-others test x (y ∷ ys) fails = go (nat_lt (number x) (number y)) (in_order-others test x ys fails)
    where
      go : (t : Bool) → find test (in_order number x ys) ≡ find test ys → find test (cond t (x ∷ y ∷ ys) (y ∷ in_order number x ys)) ≡ find test (y ∷ ys)
      go true more = ap (λ t. cond t (Some x) (find test (y ∷ ys))) fails
      go false more = ap (cond (test y) (Some y)) more

  -- and one that it alone passes finds it
  pub in_order-finds : (test : X → Bool) (x : X) (xs : List X) → test x ≡ true → All (λ y. test y ≡ false) xs → find test (in_order number x xs) ≡ Some x
  in_order-finds test x [] passes none = ap (λ t. cond t (Some x) None) passes
  in_order-finds test x (y ∷ ys) passes none = go (nat_lt (number x) (number y)) (in_order-finds test x ys passes (All-tail (λ z. test z ≡ false) y ys none))
    where
      go : (t : Bool) → find test (in_order number x ys) ≡ Some x → find test (cond t (x ∷ y ∷ ys) (y ∷ in_order number x ys)) ≡ Some x
      go true more = ap (λ t. cond t (Some x) (find test (y ∷ ys))) passes
      go false more = ap (λ t. cond t (Some y) (find test (in_order number x ys))) (All-head (λ z. test z ≡ false) y ys none) ∙ more

  -- so a number finds what it found before, or else the one that is new, as if that were the last
  pub in_order-find : (x : X) (xs : List X) (n : ℕ) → IsFree x xs
      → find (λ y. number y == n) (in_order number x xs) ≡ option_or (find (λ y. number y == n) xs) (find (λ y. number y == n) (x ∷ []))
  in_order-find x xs n free = go (number x == n) refl
    where
      none : number x ≡ n → All (λ y. (number y == n) ≡ false) xs
      none same = All-weaker (λ y. (number y == number x) ≡ false) (λ y. (number y == n) ≡ false) (λ y other. ap (λ k. number y == k) (sym same) ∙ other) xs free

      go : (t : Bool) → (number x == n) ≡ t
          → find (λ y. number y == n) (in_order number x xs) ≡ option_or (find (λ y. number y == n) xs) (find (λ y. number y == n) (x ∷ []))
      go true e =
          let fails = none (eqb-true (number x) n e) in
          in_order-finds (λ y. number y == n) x xs e fails
          ∙ sym (ap (λ o. option_or o (find (λ y. number y == n) (x ∷ []))) (find_none (λ y. number y == n) xs fails) ∙ ap (λ t. cond t (Some x) None) e)
      go false e =
          in_order-others (λ y. number y == n) x xs e
          ∙ sym (ap (λ t. option_or (find (λ y. number y == n) xs) (cond t (Some x) None)) e ∙ or_none (find (λ y. number y == n) xs))

  -- a filter that doesn't keep it leaves what it left
  pub in_order-filter : (keeps : X → Bool) (x : X) (xs : List X) → keeps x ≡ false → filter keeps (in_order number x xs) ≡ filter keeps xs
  in_order-filter keeps x [] goes = ap (λ t. cond t (x ∷ []) []) goes
  in_order-filter keeps x (y ∷ ys) goes = go (nat_lt (number x) (number y)) (in_order-filter keeps x ys goes)
    where
      go : (t : Bool) → filter keeps (in_order number x ys) ≡ filter keeps ys → filter keeps (cond t (x ∷ y ∷ ys) (y ∷ in_order number x ys)) ≡ filter keeps (y ∷ ys)
      go true more = ap (λ t. cond t (x ∷ filter keeps (y ∷ ys)) (filter keeps (y ∷ ys))) goes
      go false more = ap (λ zs. cond (keeps y) (y ∷ zs) zs) more

  -- so it can be taken back
  pub in_order-back : (x : X) (xs : List X) → IsFree x xs → filter (λ y. not (number y == number x)) (in_order number x xs) ≡ xs
  in_order-back x xs free =
      in_order-filter (λ y. not (number y == number x)) x xs (ap not (eq-eqb (number x) (number x) refl))
      ∙ filter_all (λ y. not (number y == number x)) xs (All-weaker (λ y. (number y == number x) ≡ false) (λ y. not (number y == number x) ≡ true) (λ y other. ap not other) xs free)

-- a change that leaves the numbers changes it where it stands
pub in_order-map : {X Y : Type 0} (number : X → ℕ) (other : Y → ℕ) (f : X → Y) → ((x : X) → other (f x) ≡ number x) → (x : X) (xs : List X)
    → map f (in_order number x xs) ≡ in_order other (f x) (map f xs)
in_order-map number other f same x [] = refl
in_order-map {X} {Y} number other f same x (y ∷ ys) =
    go (nat_lt (number x) (number y)) (in_order-map number other f same x ys)
    ∙ sym (λ i. cond (nat_lt (same x i) (same y i)) (f x ∷ f y ∷ map f ys) (f y ∷ in_order other (f x) (map f ys)))
  where
    go : (t : Bool) → map f (in_order number x ys) ≡ in_order other (f x) (map f ys)
        → map f (cond t (x ∷ y ∷ ys) (y ∷ in_order number x ys)) ≡ cond t (f x ∷ f y ∷ map f ys) (f y ∷ in_order other (f x) (map f ys))
    go true more = refl
    go false more = ap (λ zs. f y ∷ zs) more
