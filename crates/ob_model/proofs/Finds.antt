-- What is found in a list, and what a test of it says, after a filter, a map or one more element.
use Rattle.std.proofs.Common.{◌≡◌, Bool, true, false, cond, ◌||◌, List, [], ◌∷◌, get_or, filter, find, map, All, None, Some, option_map, refl, ap, ◌∙◌}
use Rattle.std.specs.List.{list_any}
use Rattle.std.proofs.lemmas.List.Elements.{All-nil, All-cons, All-head, All-tail, All-filter, filter_passes}

-- a filter that keeps each element that the test finds changes nothing of what is found
pub find-filter : {X : Type 0} (test keeps : X → Bool) → ((x : X) → test x ≡ true → keeps x ≡ true) → (xs : List X) → find test (filter keeps xs) ≡ find test xs
find-filter test keeps kept [] = refl
find-filter {X = X} test keeps kept (x ∷ xs) = go (test x) (keeps x) refl refl (kept x) (find-filter test keeps kept xs)
  where
    go : (a b : Bool) → test x ≡ a → keeps x ≡ b → (test x ≡ true → keeps x ≡ true) → find test (filter keeps xs) ≡ find test xs
        → find test (cond b (x ∷ filter keeps xs) (filter keeps xs)) ≡ cond a (Some x) (find test xs)
    go true true is_found is_kept both more = rw is_found refl
    go true false is_found is_kept both more = let e : keeps x ≡ true = both is_found in cc
    go false true is_found is_kept both more = rw is_found more
    go false false is_found is_kept both more = more

-- a map that the test doesn't see maps what is found
pub find-map : {X : Type 0} (test : X → Bool) (f : X → X) → ((x : X) → test (f x) ≡ test x) → (xs : List X) → find test (map f xs) ≡ option_map f (find test xs)
find-map test f same [] = refl
find-map {X = X} test f same (x ∷ xs) = rw (same x) (go (test x) (find-map test f same xs))
  where
    go : (b : Bool) → find test (map f xs) ≡ option_map f (find test xs) → cond b (Some (f x)) (find test (map f xs)) ≡ option_map f (cond b (Some x) (find test xs))
    go true more = refl
    go false more = more

-- nothing is found where nothing passes
pub find_none : {X : Type 0} (test : X → Bool) (xs : List X) → All (λ x. test x ≡ false) xs → find test xs ≡ None
find_none test [] none = refl
find_none {X} test (x ∷ xs) none =
    ap (λ b. cond b (Some x) (find test xs)) (All-head (λ y. test y ≡ false) x xs none) ∙ find_none test xs (All-tail (λ y. test y ≡ false) x xs none)

-- where nothing is found nothing passes
pub not_found : {X : Type 0} (test : X → Bool) (xs : List X) → find test xs ≡ None → All (λ x. test x ≡ false) xs
not_found test [] e = All-nil (λ x. test x ≡ false)
not_found {X} test (x ∷ xs) e = go (test x) refl e (not_found test xs)
  where
    go : (b : Bool) → test x ≡ b → cond b (Some x) (find test xs) ≡ None → (find test xs ≡ None → All (λ y. test y ≡ false) xs) → All (λ y. test y ≡ false) (x ∷ xs)
    go true f e rest = cc
    go false f e rest = All-cons (λ y. test y ≡ false) x xs f (rest e)

-- a filter leaves what passes it as it is
pub filter_all : {X : Type 0} (keeps : X → Bool) (xs : List X) → All (λ x. keeps x ≡ true) xs → filter keeps xs ≡ xs
filter_all keeps [] each = refl
filter_all keeps (x ∷ xs) each =
    let first : keeps x ≡ true = All-head (λ y. keeps y ≡ true) x xs each in
    rw first (ap (λ ys. x ∷ ys) (filter_all keeps xs (All-tail (λ y. keeps y ≡ true) x xs each)))

-- and nothing of what doesn't
pub filter_none : {X : Type 0} (keeps : X → Bool) (xs : List X) → All (λ x. keeps x ≡ false) xs → filter keeps xs ≡ []
filter_none keeps [] each = refl
filter_none keeps (x ∷ xs) each =
    let first : keeps x ≡ false = All-head (λ y. keeps y ≡ false) x xs each in
    rw first (filter_none keeps xs (All-tail (λ y. keeps y ≡ false) x xs each))

-- what holds of each element holds of each that a filter keeps, which passes it too
pub All-kept : {X : Type 0} (keeps : X → Bool) (P Q : X → Type 0) → ((x : X) → keeps x ≡ true → P x → Q x) → (xs : List X) → All P xs → All Q (filter keeps xs)
All-kept keeps P Q gives xs each = λ k d within. gives (get_or (filter keeps xs) k d) (filter_passes keeps xs k d within) (All-filter keeps P xs each k d within)

-- a test that passes wherever another does
pub list_any_weaker : {X : Type 0} (p q : X → Bool) (xs : List X) → All (λ x. p x ≡ true → q x ≡ true) xs → list_any p xs ≡ true → list_any q xs ≡ true
list_any_weaker p q [] each some = some
list_any_weaker p q (x ∷ xs) each some =
    go (p x) (q x) (list_any p xs) (list_any q xs) (All-head (λ y. p y ≡ true → q y ≡ true) x xs each)
    (list_any_weaker p q xs (All-tail (λ y. p y ≡ true → q y ≡ true) x xs each)) some
  where
    go : (a b c d : Bool) → (a ≡ true → b ≡ true) → (c ≡ true → d ≡ true) → (a || c) ≡ true → (b || d) ≡ true
    go true b c d first more some = rw (first refl) refl
    go false true c d first more some = refl
    go false false c d first more some = more some
