-- Lists: what holds of what is left out of them, and what is found in them.
use Rattle.std.proofs.Common.{◌≡◌, ◌∙◌, ℕ, zero, suc, ◌+◌, ◌-◌, ◌<◌, Bool, true, false, not, cond, List, [], ◌∷◌, ◌++◌, length, get_or, take, slice_get, filter, find, Option, None, Some, is_some, All, refl, ap, sym, subst, arith, ◌⊎◌, inl, inr, true≢false}
use Rattle.std.proofs.lemmas.List.{get_or_append_left, length_push, take_all, take_more}
use Rattle.std.proofs.lemmas.List.Elements.{All-nil, All-cons, All-head, All-tail}
use Rattle.std.proofs.lemmas.List.Kept.{AllPairs-cons}
use Rattle.std.specs.List.{AllPairs, Contains, filter_map, cons_option}
use Rattle.std.specs.Option.{option_or, option_and_then}
use Rattle.slab.proofs.SlabLemmas.{Contains-cons, Contains-cons_cases}
use Rattle.ob_model.proofs.Finds.{filter_all}

-- ---- pairs

module _ {X : Type 0} (R : X → X → Type 0) where
  pub AllPairs-head : (x : X) (xs : List X) → AllPairs R (x ∷ xs) → All (R x) xs
  AllPairs-head x xs pairs = λ k d below. pairs zero (suc k) d (omega arith) (omega (arith, below))

  pub AllPairs-tail : (x : X) (xs : List X) → AllPairs R (x ∷ xs) → AllPairs R xs
  AllPairs-tail x xs pairs = λ i j d before below. pairs (suc i) (suc j) d (omega (arith, before)) (omega (arith, below))

  -- a front of a list
  pub AllPairs-front : (xs : List X) (x : X) → AllPairs R (xs ++ x ∷ []) → AllPairs R xs
  AllPairs-front xs x pairs =
      λ i j d before below.
      let one : get_or (xs ++ x ∷ []) i d ≡ get_or xs i d = get_or_append_left xs (x ∷ []) d i (omega (arith, before, below)) in
      let other : get_or (xs ++ x ∷ []) j d ≡ get_or xs j d = get_or_append_left xs (x ∷ []) d j below in
      subst (λ a. R a (get_or xs j d)) one
      (subst (R (get_or (xs ++ x ∷ []) i d)) other (pairs i j d before (omega (arith, below, length_push xs x))))

-- ---- `filter_map`

module _ {X Y : Type 0} (f : X → Option Y) where
  pub All-filter_map : (P : Y → Type 0) (xs : List X) → All (λ x. (y : Y) → f x ≡ Some y → P y) xs → All P (filter_map f xs)
  All-filter_map P [] each = All-nil P
  All-filter_map P (x ∷ xs) each =
      go (f x) refl (All-filter_map P xs (All-tail (λ z. (y : Y) → f z ≡ Some y → P y) x xs each))
    where
      go : (o : Option Y) → f x ≡ o → All P (filter_map f xs) → All P (cons_option o (filter_map f xs))
      go None e more = more
      go (Some y) e more = All-cons P y (filter_map f xs) (All-head (λ z. (y : Y) → f z ≡ Some y → P y) x xs each y e) more

  pub AllPairs-filter_map : (R : X → X → Type 0) (Q : Y → Y → Type 0) → ((a b : X) (y z : Y) → f a ≡ Some y → f b ≡ Some z → R a b → Q y z)
      → (xs : List X) → AllPairs R xs → AllPairs Q (filter_map f xs)
  AllPairs-filter_map R Q gives [] pairs = λ i j d before below. absurd (omega (arith, below))
  AllPairs-filter_map R Q gives (x ∷ xs) pairs =
      go (f x) refl (AllPairs-filter_map R Q gives xs (AllPairs-tail R x xs pairs))
    where
      go : (o : Option Y) → f x ≡ o → AllPairs Q (filter_map f xs) → AllPairs Q (cons_option o (filter_map f xs))
      go None e more = more
      go (Some y) e more =
          AllPairs-cons Q y (filter_map f xs)
          (All-filter_map (Q y) xs (λ k d below. λ z found. gives x (get_or xs k d) y z e found (AllPairs-head R x xs pairs k d below)))
          more

  -- what an element gives is among what all give
  pub Contains-filter_map : (xs : List X) (x : X) (y : Y) → f x ≡ Some y → Contains xs x → Contains (filter_map f xs) y
  Contains-filter_map [] x y e there = absurd (omega (arith, there.1))
  Contains-filter_map (z ∷ zs) x y e there =
      elim (Contains-cons_cases z x zs there) [
        | inl same ↦ here (f z) (ap f same ∙ e)
        | inr later ↦ behind (f z) (Contains-filter_map zs x y e later)
      ]
    where
      here : (o : Option Y) → o ≡ Some y → Contains (cons_option o (filter_map f zs)) y
      here None is = cc
      here (Some w) is = let it : w ≡ y = cc in (0, omega arith, it)

      behind : (o : Option Y) → Contains (filter_map f zs) y → Contains (cons_option o (filter_map f zs)) y
      behind None more = more
      behind (Some w) more = Contains-cons w y (filter_map f zs) more

  -- elements that give nothing don't count
  pub filter_map-cons_none : (x : X) (xs : List X) → f x ≡ None → filter_map f (x ∷ xs) ≡ filter_map f xs
  filter_map-cons_none x xs e = ap (λ o. cons_option o (filter_map f xs)) e

  pub filter_map-cons_some : (x : X) (xs : List X) (y : Y) → f x ≡ Some y → filter_map f (x ∷ xs) ≡ y ∷ filter_map f xs
  filter_map-cons_some x xs y e = ap (λ o. cons_option o (filter_map f xs)) e

  -- and may be filtered away
  pub filter_map-filter : (xs : List X) → filter_map f (filter (λ x. is_some (f x)) xs) ≡ filter_map f xs
  filter_map-filter [] = refl
  filter_map-filter (x ∷ xs) = go (f x) refl (filter_map-filter xs)
    where
      go : (o : Option Y) → f x ≡ o → filter_map f (filter (λ z. is_some (f z)) xs) ≡ filter_map f xs
          → filter_map f (cond (is_some o) (x ∷ filter (λ z. is_some (f z)) xs) (filter (λ z. is_some (f z)) xs)) ≡ cons_option o (filter_map f xs)
      go None e more = more
      go (Some y) e more = filter_map-cons_some x (filter (λ z. is_some (f z)) xs) y e ∙ ap (λ ys. y ∷ ys) more

  pub length-filter_some : (xs : List X) → length (filter (λ x. is_some (f x)) xs) ≡ length (filter_map f xs)
  length-filter_some [] = refl
  length-filter_some (x ∷ xs) = go (f x) (length-filter_some xs)
    where
      go : (o : Option Y) → length (filter (λ z. is_some (f z)) xs) ≡ length (filter_map f xs)
          → length (cond (is_some o) (x ∷ filter (λ z. is_some (f z)) xs) (filter (λ z. is_some (f z)) xs)) ≡ length (cons_option o (filter_map f xs))
      go None more = more
      go (Some y) more = ap suc more

  -- then the first gives the first
  pub first-filter : (xs : List X)
      → slice_get (filter_map f (filter (λ x. is_some (f x)) xs)) 0 ≡ option_and_then f (slice_get (filter (λ x. is_some (f x)) xs) 0)
  first-filter [] = refl
  first-filter (x ∷ xs) = go (f x) refl (first-filter xs)
    where
      go : (o : Option Y) → f x ≡ o → slice_get (filter_map f (filter (λ z. is_some (f z)) xs)) 0 ≡ option_and_then f (slice_get (filter (λ z. is_some (f z)) xs) 0)
          → slice_get (filter_map f (cond (is_some o) (x ∷ filter (λ z. is_some (f z)) xs) (filter (λ z. is_some (f z)) xs))) 0
          ≡ option_and_then f (slice_get (cond (is_some o) (x ∷ filter (λ z. is_some (f z)) xs) (filter (λ z. is_some (f z)) xs)) 0)
      go None e more = more
      go (Some y) e more = ap (λ ys. slice_get ys 0) (filter_map-cons_some x (filter (λ z. is_some (f z)) xs) y e) ∙ sym e

-- what passes a test
abbrev pub passing : {Y : Type 0} → (Y → Bool) → Option Y → Option Y
passing test None = None
passing test (Some y) = cond (test y) (Some y) None

pub filter_map_agree : {X Y : Type 0} (f g : X → Option Y) (xs : List X) → All (λ x. f x ≡ g x) xs → filter_map f xs ≡ filter_map g xs
filter_map_agree f g [] same = refl
filter_map_agree f g (x ∷ xs) same =
    ap (λ o. cons_option o (filter_map f xs)) (All-head (λ z. f z ≡ g z) x xs same)
    ∙ ap (cons_option (g x)) (filter_map_agree f g xs (All-tail (λ z. f z ≡ g z) x xs same))

pub filter_map-passing : {X Y : Type 0} (f g : X → Option Y) (test : Y → Bool) (xs : List X) → All (λ x. g x ≡ passing test (f x)) xs
    → filter_map g xs ≡ filter test (filter_map f xs)
filter_map-passing f g test [] same = refl
filter_map-passing {X} {Y} f g test (x ∷ xs) same =
    ap (λ o. cons_option o (filter_map g xs)) (All-head (λ z. g z ≡ passing test (f z)) x xs same)
    ∙ ap (cons_option (passing test (f x))) (filter_map-passing f g test xs (All-tail (λ z. g z ≡ passing test (f z)) x xs same))
    ∙ go (f x)
  where
    pick : (y : Y) (b : Bool) → cons_option (cond b (Some y) None) (filter test (filter_map f xs)) ≡ cond b (y ∷ filter test (filter_map f xs)) (filter test (filter_map f xs))
    pick y true = refl
    pick y false = refl

    go : (o : Option Y) → cons_option (passing test o) (filter test (filter_map f xs)) ≡ filter test (cons_option o (filter_map f xs))
    go None = refl
    go (Some y) = pick y (test y)

-- ---- elements that are found

pub Contains-filter : {X : Type 0} (p : X → Bool) (xs : List X) (x : X) → p x ≡ true → Contains xs x → Contains (filter p xs) x
Contains-filter p [] x passes there = absurd (omega (arith, there.1))
Contains-filter {X} p (y ∷ ys) x passes there =
    elim (Contains-cons_cases y x ys there) [
      | inl same ↦ here (p y) (ap p same ∙ passes) same
      | inr later ↦ behind (p y) (Contains-filter p ys x passes later)
    ]
  where
    here : (b : Bool) → b ≡ true → y ≡ x → Contains (cond b (y ∷ filter p ys) (filter p ys)) x
    here true e same = (0, omega arith, same)
    here false e same = absurd (true≢false (sym e))

    behind : (b : Bool) → Contains (filter p ys) x → Contains (cond b (y ∷ filter p ys) (filter p ys)) x
    behind true more = Contains-cons y x (filter p ys) more
    behind false more = more

-- an element that passes, where no other does, is found
pub find_only : {X : Type 0} (test : X → Bool) (xs : List X) (x : X) → Contains xs x → test x ≡ true → All (λ y. test y ≡ true → y ≡ x) xs → find test xs ≡ Some x
find_only test [] x there passes only = absurd (omega (arith, there.1))
find_only {X} test (y ∷ ys) x there passes only =
    go (test y) refl (Contains-cons_cases y x ys there) (λ later. find_only test ys x later passes (All-tail (λ z. test z ≡ true → z ≡ x) y ys only))
  where
    go : (b : Bool) → test y ≡ b → (y ≡ x) ⊎ Contains ys x → (Contains ys x → find test ys ≡ Some x) → cond b (Some y) (find test ys) ≡ Some x
    go true e place more = ap Some (All-head (λ z. test z ≡ true → z ≡ x) y ys only e)
    go false e (inl same) more = absurd (true≢false (sym passes ∙ ap test (sym same) ∙ e))
    go false e (inr later) more = more later

-- where one is found and no two pass, all others are one less
pub length-others : {X : Type 0} (test : X → Bool) (xs : List X) (x : X) → find test xs ≡ Some x → AllPairs (λ a b. test a ≡ true → test b ≡ false) xs
    → length (filter (λ y. not (test y)) xs) + 1 ≡ length xs
length-others test [] x found apart = cc
length-others {X} test (y ∷ ys) x found apart =
    go (test y) refl found (AllPairs-head (λ a b. test a ≡ true → test b ≡ false) y ys apart)
    (λ later. length-others test ys x later (AllPairs-tail (λ a b. test a ≡ true → test b ≡ false) y ys apart))
  where
    go : (b : Bool) → test y ≡ b → cond b (Some y) (find test ys) ≡ Some x → All (λ z. test y ≡ true → test z ≡ false) ys
        → (find test ys ≡ Some x → length (filter (λ z. not (test z)) ys) + 1 ≡ length ys)
        → length (cond (not b) (y ∷ filter (λ z. not (test z)) ys) (filter (λ z. not (test z)) ys)) + 1 ≡ suc (length ys)
    go true e here others more =
        let all : filter (λ z. not (test z)) ys ≡ ys = filter_all (λ z. not (test z)) ys (λ k d below. ap not (others k d below e)) in
        let long : length (filter (λ z. not (test z)) ys) ≡ length ys = ap length all in
        omega (arith, long)
    go false e here others more = let fewer : length (filter (λ z. not (test z)) ys) + 1 ≡ length ys = more here in omega (arith, fewer)

-- one more behind others leaves the first as it is
pub first_push : {X : Type 0} (xs : List X) (x : X) → slice_get (xs ++ x ∷ []) 0 ≡ option_or (slice_get xs 0) (Some x)
first_push [] x = refl
first_push (y ∷ ys) x = refl

-- a list is its front and its last
pub split_last : {X : Type 0} (xs : List X) (n : ℕ) (x : X) → n ≡ length xs → 0 < n → x ≡ get_or xs (n - 1) x → xs ≡ take (n - 1) xs ++ x ∷ []
split_last xs n x long some is =
    let one : n - 1 + 1 ≡ n = omega (arith, some) in
    let whole : take (n - 1 + 1) xs ≡ xs = take_all (n - 1 + 1) xs (omega (arith, one, long)) in
    sym whole ∙ take_more xs (n - 1) x (omega (arith, long, some)) ∙ ap (λ y. take (n - 1) xs ++ y ∷ []) (sym is)
