-- The tickets of variables while opens begin to wait under them, and end.
use Rattle.std.proofs.Common.{◌≡◌, ◌≢◌, ◌∙◌, ℕ, suc, ◌<◌, ◌==◌, ◌||◌, Bool, true, false, not, cond, List, [], ◌∷◌, ◌++◌, ◌⊎◌, inl, inr, filter, All, refl, ap, sym, subst, arith, eq-eqb, eqb-true}
use Rattle.std.specs.List.{AllPairs, list_any}
use Rattle.std.specs.Str.{bytes_eq}
use Rattle.std.proofs.lemmas.Bool.{ne_eqb}
use Rattle.std.proofs.lemmas.List.Elements.{All-nil, All-head, All-tail, All-push, All-filter, filter_passes}
use Rattle.std.proofs.lemmas.List.Folds.{list_any-append, list_any-from_Any}
use Rattle.std.proofs.lemmas.List.Kept.{AllPairs-cons, AllPairs-filter}
use Rattle.std.proofs.lemmas.List.Quantifiers.{Any-push}
use Rattle.std.proofs.lemmas.Slice.Eq.{bytes_eq-Decides}
use Rattle.ob_effects.specs.Waiting.{AreTickets, IsUnderVariable}
use Rattle.ob_effects.specs.Kept.{AreApart}

-- a variable of a process is this one
abbrev pub IsVariableOf : ℕ → List ℕ → ℕ → List ℕ → Type 0
IsVariableOf process variable p w = (process ≡ p) × (bytes_eq variable w ≡ true)

-- that variable is set, and the others stay
abbrev pub IsSet : (f h : ℕ → List ℕ → ℕ) → ℕ → List ℕ → ℕ → Type 0
IsSet f h process variable n = (p : ℕ) (w : List ℕ) → (IsVariableOf process variable p w × (h p w ≡ n)) ⊎ ((IsVariableOf process variable p w → ⊥) × (h p w ≡ f p w))

same_bytes : (a b : List ℕ) → bytes_eq a b ≡ true → a ≡ b
same_bytes a b e = (bytes_eq-Decides a b).0 e

pub bytes_same : (a b : List ℕ) → a ≡ b → bytes_eq a b ≡ true
bytes_same a b e = (bytes_eq-Decides a b).1 e

-- the same variable of the same process has the same ticket
pub its_number : (f : ℕ → List ℕ → ℕ) (process p : ℕ) (variable w : List ℕ) → IsVariableOf process variable p w → f p w ≡ f process variable
its_number f process p variable w (same, bytes) = λ i. f (sym same i) (sym (same_bytes variable w bytes) i)

other_bytes : (a b c : List ℕ) → bytes_eq a b ≡ true → bytes_eq a c ≡ true → bytes_eq b c ≡ true
other_bytes a b c e d = bytes_same b c (sym (same_bytes a b e) ∙ same_bytes a c d)

-- a variable is set by the definition
pub is_set : (f : ℕ → List ℕ → ℕ) (process : ℕ) (variable : List ℕ) (n : ℕ) → IsSet f (λ p. cond (process == p) (λ w. cond (bytes_eq variable w) n (f process w)) (f p)) process variable n
is_set f process variable n p w = go (process == p) (bytes_eq variable w) refl refl
  where
    go : (a b : Bool) → (process == p) ≡ a → bytes_eq variable w ≡ b
        → (IsVariableOf process variable p w × (cond a (λ w. cond (bytes_eq variable w) n (f process w)) (f p) w ≡ n))
        ⊎ ((IsVariableOf process variable p w → ⊥) × (cond a (λ w. cond (bytes_eq variable w) n (f process w)) (f p) w ≡ f p w))
    go true true e d = inl ((eqb-true process p e, d), ap (λ (b : Bool). cond b n (f process w)) d)
    go true false e d = inr ((λ is. let bad : true ≡ false = sym is.1 ∙ d in cc), ap (λ (b : Bool). cond b n (f process w)) d ∙ ap (λ x. f x w) (eqb-true process p e))
    go false b e d = inr ((λ is. let bad : true ≡ false = sym (eq-eqb process p is.0) ∙ e in cc), refl)

-- a number that is below all is none of them, and one that is among them is none of the others
any_below : (n : ℕ) (xs : List ℕ) → All (λ x. x < n) xs → list_any (λ x. x == n) xs ≡ false
any_below n [] h = refl
any_below n (x ∷ xs) h =
    let first : (x == n) ≡ false = ne_eqb x n (λ e. omega (arith, e, All-head (λ x. x < n) x xs h)) in
    ap (λ b. b || list_any (λ x. x == n) xs) first ∙ any_below n xs (All-tail (λ x. x < n) x xs h)

all_among : (P : ℕ → Type 0) (n : ℕ) (xs : List ℕ) → All P xs → list_any (λ x. x == n) xs ≡ true → P n
all_among P n [] h e = cc
all_among P n (x ∷ xs) h e = go (x == n) refl (λ d. all_among P n xs (All-tail P x xs h) d) e
  where
    go : (b : Bool) → (x == n) ≡ b → (list_any (λ x. x == n) xs ≡ true → P n) → (b || list_any (λ x. x == n) xs) ≡ true → P n
    go true same on d = subst P (eqb-true x n same) (All-head P x xs h)
    go false same on d = on d

any_kept : (m n : ℕ) (xs : List ℕ) → m ≢ n → list_any (λ x. x == m) xs ≡ true → list_any (λ x. x == m) (filter (λ k. not (k == n)) xs) ≡ true
any_kept m n [] differ e = e
any_kept m n (x ∷ xs) differ e = go (x == m) (x == n) refl refl (λ d. any_kept m n xs differ d) e
  where
    Rest : List ℕ
    Rest = filter (λ k. not (k == n)) xs

    go : (a b : Bool) → (x == m) ≡ a → (x == n) ≡ b → (list_any (λ x. x == m) xs ≡ true → list_any (λ x. x == m) Rest ≡ true) → (a || list_any (λ x. x == m) xs) ≡ true
        → list_any (λ x. x == m) (cond (not b) (x ∷ Rest) Rest) ≡ true
    go true true here there on e = absurd (differ (sym (eqb-true x m here) ∙ eqb-true x n there))
    go true false here there on e = ap (λ b. b || list_any (λ x. x == m) Rest) here
    go false true here there on e = on e
    go false false here there on e = ap (λ b. b || list_any (λ x. x == m) Rest) here ∙ on e

any_pushed : (m n : ℕ) (xs : List ℕ) → list_any (λ x. x == m) xs ≡ true → list_any (λ x. x == m) (xs ++ n ∷ []) ≡ true
any_pushed m n xs e = list_any-append (λ x. x == m) xs (n ∷ []) ∙ ap (λ b. b || list_any (λ x. x == m) (n ∷ [])) e

any_last : (n : ℕ) (xs : List ℕ) → list_any (λ x. x == n) (xs ++ n ∷ []) ≡ true
any_last n xs = list_any-from_Any (λ x. x == n) (xs ++ n ∷ []) (Any-push (λ x. (x == n) ≡ true) xs n (eq-eqb n n refl))

pairs_pushed : (n : ℕ) (xs : List ℕ) → AllPairs (λ a b. a < b) xs → All (λ x. x < n) xs → AllPairs (λ a b. a < b) (xs ++ n ∷ [])
pairs_pushed n [] rising below = AllPairs-cons (λ a b. a < b) n [] (All-nil (λ b. n < b)) rising
pairs_pushed n (x ∷ xs) rising below =
    AllPairs-cons (λ a b. a < b) x (xs ++ n ∷ [])
    (All-push (λ b. x < b) xs n (λ i d inside. rising 0 (suc i) d (omega arith) (omega (arith, inside))) (All-head (λ x. x < n) x xs below))
    (pairs_pushed n xs (λ i j d before inside. rising (suc i) (suc j) d (omega (arith, before)) (omega (arith, inside))) (All-tail (λ x. x < n) x xs below))

module _ (f h : ℕ → List ℕ → ℕ) (process : ℕ) (variable : List ℕ) where
  -- an open waits no longer under a variable
  module _ (n : ℕ) (there : f process variable ≡ n) (some : n ≢ 0) (set : IsSet f h process variable 0) (apart : AreApart f) where
    -- a variable that stays has another ticket
    pub stays_other : (p : ℕ) (w : List ℕ) → (IsVariableOf process variable p w → ⊥) → f p w ≢ n
    stays_other p w other same = elim (apart process p variable w (there ∙ sym same)) as (λ x. ⊥) [
      | inl none ↦ some (sym there ∙ none)
      | inr is ↦ other is
    ]

    still_held : (m : ℕ) → IsUnderVariable f m → not (m == n) ≡ true → IsUnderVariable h m
    still_held m (is, (p, w, e)) differs = go (set p w)
      where
        go : (IsVariableOf process variable p w × (h p w ≡ 0)) ⊎ ((IsVariableOf process variable p w → ⊥) × (h p w ≡ f p w)) → IsUnderVariable h m
        go (inl (same, none)) =
            let one : m ≡ n = sym e ∙ (its_number f process p variable w same ∙ there) in
            let bad : not true ≡ true = sym (ap not (eq-eqb m n one)) ∙ differs in cc
        go (inr (other, same)) = (is, (p, w, same ∙ e))

    still_listed : (tickets : List ℕ) (p : ℕ) (w : List ℕ) → (f p w ≡ 0) ⊎ (list_any (λ k. k == f p w) tickets ≡ true)
        → (IsVariableOf process variable p w × (h p w ≡ 0)) ⊎ ((IsVariableOf process variable p w → ⊥) × (h p w ≡ f p w))
        → (h p w ≡ 0) ⊎ (list_any (λ k. k == h p w) (filter (λ k. not (k == n)) tickets) ≡ true)
    still_listed tickets p w is (inl (same, none)) = inl none
    still_listed tickets p w (inl none) (inr (other, same)) = inl (same ∙ none)
    still_listed tickets p w (inr among) (inr (other, same)) =
        inr (subst (λ m. list_any (λ k. k == m) (filter (λ k. not (k == n)) tickets) ≡ true) (sym same) (any_kept (f p w) n tickets (stays_other p w other) among))

    pub cleared_listed : (tickets : List ℕ) → AreTickets f tickets → AreTickets h (filter (λ k. not (k == n)) tickets)
    cleared_listed tickets listed = record {
      rising = AllPairs-filter (λ a b. a < b) (λ k. not (k == n)) tickets listed.rising;
      held = λ i d inside.
          still_held _ (All-filter (λ k. not (k == n)) (IsUnderVariable f) tickets listed.held i d inside) (filter_passes (λ k. not (k == n)) tickets i d inside);
      all = λ p w. still_listed tickets p w (listed.all p w) (set p w);
    }

    pub cleared_apart : AreApart h
    cleared_apart p q a b e = go (set p a) (set q b)
      where
        Set : ℕ → List ℕ → Type 0
        Set p w = (IsVariableOf process variable p w × (h p w ≡ 0)) ⊎ ((IsVariableOf process variable p w → ⊥) × (h p w ≡ f p w))

        go : Set p a → Set q b → (h p a ≡ 0) ⊎ ((p ≡ q) × (bytes_eq a b ≡ true))
        go (inl (is, none)) k = inl none
        go (inr (other, same)) (inl (is, none)) = inl (e ∙ none)
        go (inr (other, same)) (inr (apart_too, same_too)) = elim (apart p q a b (sym same ∙ (e ∙ same_too))) as (λ x. (h p a ≡ 0) ⊎ ((p ≡ q) × (bytes_eq a b ≡ true))) [
          | inl none ↦ inl (same ∙ none)
          | inr is ↦ inr is
        ]

  -- an open begins to wait under a variable under which none waits
  module _ (n : ℕ) (free : f process variable ≡ 0) (some : n ≢ 0) (set : IsSet f h process variable n) where
    other_stays : (m p : ℕ) (w : List ℕ) → m ≢ 0 → f p w ≡ m → h p w ≡ m
    other_stays m p w is e = elim (set p w) as (λ x. h p w ≡ m) [
      | inl (same, set) ↦ absurd (is (sym e ∙ (its_number f process p variable w same ∙ free)))
      | inr (other, same) ↦ same ∙ e
    ]

    is_set_itself : h process variable ≡ n
    is_set_itself = elim (set process variable) as (λ x. h process variable ≡ n) [
      | inl (same, set) ↦ set
      | inr (other, same) ↦ absurd (other (refl, bytes_same variable variable refl))
    ]

    pub begun_listed : (tickets : List ℕ) → All (λ k. k < n) tickets → AreTickets f tickets → AreTickets h (tickets ++ n ∷ [])
    begun_listed tickets below listed = record {
      rising = pairs_pushed n tickets listed.rising below;
      held = All-push (IsUnderVariable h) tickets n
          (λ i d inside. let one = listed.held i d inside in (one.0, (one.1.0, one.1.1, other_stays _ one.1.0 one.1.1 one.0 one.1.2))) (some, (process, variable, is_set_itself));
      all = λ p w. among p w (listed.all p w) (set p w);
    }
      where
        among : (p : ℕ) (w : List ℕ) → (f p w ≡ 0) ⊎ (list_any (λ k. k == f p w) tickets ≡ true)
            → (IsVariableOf process variable p w × (h p w ≡ n)) ⊎ ((IsVariableOf process variable p w → ⊥) × (h p w ≡ f p w))
            → (h p w ≡ 0) ⊎ (list_any (λ k. k == h p w) (tickets ++ n ∷ []) ≡ true)
        among p w is (inl (same, set)) = inr (subst (λ m. list_any (λ k. k == m) (tickets ++ n ∷ []) ≡ true) (sym set) (any_last n tickets))
        among p w (inl none) (inr (other, same)) = inl (same ∙ none)
        among p w (inr is) (inr (other, same)) = inr (subst (λ m. list_any (λ k. k == m) (tickets ++ n ∷ []) ≡ true) (sym same) (any_pushed (f p w) n tickets is))

    pub begun_apart : (tickets : List ℕ) → All (λ k. k < n) tickets → AreTickets f tickets → AreApart f → AreApart h
    begun_apart tickets below listed apart p q a b e = go (set p a) (set q b)
      where
        Set : ℕ → List ℕ → Type 0
        Set p w = (IsVariableOf process variable p w × (h p w ≡ n)) ⊎ ((IsVariableOf process variable p w → ⊥) × (h p w ≡ f p w))

        new : (p : ℕ) (w : List ℕ) → f p w ≡ n → ⊥
        new p w same = elim (listed.all p w) as (λ x. ⊥) [
          | inl none ↦ some (sym same ∙ none)
          | inr is ↦ let bad : true ≡ false = sym (subst (λ m. list_any (λ k. k == m) tickets ≡ true) same is) ∙ any_below n tickets below in cc
        ]

        go : Set p a → Set q b → (h p a ≡ 0) ⊎ ((p ≡ q) × (bytes_eq a b ≡ true))
        go (inl (is, set)) (inl (is_too, set_too)) = inr (sym is.0 ∙ is_too.0, other_bytes variable a b is.1 is_too.1)
        go (inl (is, set)) (inr (other, same)) = absurd (new q b (sym same ∙ (sym e ∙ set)))
        go (inr (other, same)) (inl (is, set)) = absurd (new p a (sym same ∙ (e ∙ set)))
        go (inr (other, same)) (inr (other_too, same_too)) = elim (apart p q a b (sym same ∙ (e ∙ same_too))) as (λ x. (h p a ≡ 0) ⊎ ((p ≡ q) × (bytes_eq a b ≡ true))) [
          | inl none ↦ inl (same ∙ none)
          | inr is ↦ inr is
        ]
