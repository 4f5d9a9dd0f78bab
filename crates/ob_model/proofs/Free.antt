-- A process whose table isn't full has a free handle value: it has fewer handles than there are values.
use Rattle.std.proofs.Common.{◌≡◌, ◌≢◌, ◌∙◌, ℕ, zero, suc, ◌+◌, ◌*◌, ◌<◌, ◌≤◌, ◌==◌, Bool, true, false, ◌&&◌, ◌||◌, not, cond, List, [], ◌∷◌, filter, All, refl, ap, sym, arith, eqb-true}
use Rattle.std.specs.Prelude.{count_by}
use Rattle.std.specs.List.{list_any}
use Rattle.std.proofs.lemmas.Bool.{ne_eqb}
use Rattle.std.proofs.lemmas.List.Elements.{All-nil, All-cons, All-head, All-tail}
use Rattle.std.proofs.lemmas.List.Sums.{sum_by-cons}
use Rattle.ob_model.specs.declared.state.Held.{Held}
use Rattle.ob_model.specs.State.{State, table_size, most_handles}
use Rattle.ob_model.specs.Grants.{IsFreeValue}
use Rattle.ob_model.specs.Closing.{is_handle}
use Rattle.ob_model.proofs.Finds.{find_none}

-- one passes, or none does
some_or_none : {X : Type 0} (test : X → Bool) (xs : List X) → list_any test xs ≡ false → All (λ x. test x ≡ false) xs
some_or_none test [] h = All-nil (λ x. test x ≡ false)
some_or_none {X} test (x ∷ xs) h = go (test x) refl h (some_or_none test xs)
  where
    go : (b : Bool) → test x ≡ b → (b || list_any test xs) ≡ false → (list_any test xs ≡ false → All (λ y. test y ≡ false) xs) → All (λ y. test y ≡ false) (x ∷ xs)
    go true e h rest = cc
    go false e h rest = All-cons (λ y. test y ≡ false) x xs e (rest h)

-- a count, one element more
count_cons : {X : Type 0} (test : X → Bool) (x : X) (xs : List X) → count_by test (x ∷ xs) ≡ cond (test x) 1 0 + count_by test xs
count_cons test x xs = sum_by-cons (λ y. cond (test y) 1 0) x xs

-- a filter leaves no more of what is counted
count_filter : {X : Type 0} (counted keeps : X → Bool) (xs : List X) → count_by counted (filter keeps xs) ≤ count_by counted xs
count_filter counted keeps [] = omega arith
count_filter {X} counted keeps (x ∷ xs) = go (keeps x) (count_filter counted keeps xs)
  where
    go : (b : Bool) → count_by counted (filter keeps xs) ≤ count_by counted xs → count_by counted (cond b (x ∷ filter keeps xs) (filter keeps xs)) ≤ count_by counted (x ∷ xs)
    go true rest = let after = count_cons counted x (filter keeps xs) in let before = count_cons counted x xs in omega (arith, rest, after, before)
    go false rest = let before = count_cons counted x xs in omega (arith, rest, before)

-- and fewer where one that is counted goes
count_fewer : {X : Type 0} (counted goes : X → Bool) (xs : List X) → ((x : X) → goes x ≡ true → counted x ≡ true) → list_any goes xs ≡ true
    → count_by counted (filter (λ x. not (goes x)) xs) < count_by counted xs
count_fewer counted goes [] own some = cc
count_fewer {X} counted goes (x ∷ xs) own some = go (goes x) refl some (count_fewer counted goes xs own)
  where
    go : (b : Bool) → goes x ≡ b → (b || list_any goes xs) ≡ true → (list_any goes xs ≡ true → count_by counted (filter (λ y. not (goes y)) xs) < count_by counted xs)
        → count_by counted (cond (not b) (x ∷ filter (λ y. not (goes y)) xs) (filter (λ y. not (goes y)) xs)) < count_by counted (x ∷ xs)
    go true e some rest =
        let before : count_by counted (x ∷ xs) ≡ 1 + count_by counted xs = count_cons counted x xs ∙ ap (λ (b : Bool). cond b 1 0 + count_by counted xs) (own x e) in
        let fewer = count_filter counted (λ y. not (goes y)) xs in
        omega (arith, before, fewer)
    go false e some rest =
        let after = count_cons counted x (filter (λ y. not (goes y)) xs) in
        let before = count_cons counted x xs in
        let fewer = rest some in
        omega (arith, after, before, fewer)

-- what fails on all that a filter leaves, and on what it takes out, fails on all
fails_on_all : {X : Type 0} (goes test : X → Bool) (xs : List X) → ((x : X) → goes x ≡ true → test x ≡ false) → All (λ x. test x ≡ false) (filter (λ x. not (goes x)) xs) → All (λ x. test x ≡ false) xs
fails_on_all goes test [] gone left = All-nil (λ x. test x ≡ false)
fails_on_all {X} goes test (x ∷ xs) gone left = go (goes x) refl left (fails_on_all goes test xs gone)
  where
    go : (b : Bool) → goes x ≡ b → All (λ y. test y ≡ false) (cond (not b) (x ∷ filter (λ y. not (goes y)) xs) (filter (λ y. not (goes y)) xs))
        → (All (λ y. test y ≡ false) (filter (λ y. not (goes y)) xs) → All (λ y. test y ≡ false) xs) → All (λ y. test y ≡ false) (x ∷ xs)
    go true e left rest = All-cons (λ y. test y ≡ false) x xs (gone x e) (rest left)
    go false e left rest =
        All-cons (λ y. test y ≡ false) x xs (All-head (λ y. test y ≡ false) x (filter (λ y. not (goes y)) xs) left)
        (rest (All-tail (λ y. test y ≡ false) x (filter (λ y. not (goes y)) xs) left))

-- a handle of a process and value is one of the process, and of no other value
own_handle : (p value : ℕ) (h : Held) → is_handle p value h ≡ true → (h.process == p) ≡ true
own_handle p value h e = go (h.process == p) e
  where
    go : (b : Bool) → (b && (h.value == value)) ≡ true → b ≡ true
    go true e = refl
    go false e = cc

other_value : (p value other : ℕ) (h : Held) → value ≢ other → is_handle p value h ≡ true → is_handle p other h ≡ false
other_value p value other h differ e = go (h.process == p) e
  where
    go : (b : Bool) → (b && (h.value == value)) ≡ true → (b && (h.value == other)) ≡ false
    go true e = ne_eqb h.value other (λ same. differ (sym (eqb-true h.value value e) ∙ same))
    go false e = cc

-- of so many values one is unused, where there are fewer handles
unused_below : (n p : ℕ) (hs : List Held) → count_by (λ h. h.process == p) hs < n → (k : ℕ) × (k < n) × All (λ h. is_handle p (4 * (k + 1)) h ≡ false) hs
unused_below zero p hs few = absurd (omega (arith, few))
unused_below (suc m) p hs few =
    let value = 4 * (m + 1) in
    let rest = filter (λ h. not (is_handle p value h)) hs in
    go (list_any (is_handle p value) hs) refl (λ fewer. unused_below m p rest (omega (arith, few, fewer)))
  where
    go : (b : Bool) → list_any (is_handle p (4 * (m + 1))) hs ≡ b
        → (count_by (λ h. h.process == p) (filter (λ h. not (is_handle p (4 * (m + 1)) h)) hs) < count_by (λ h. h.process == p) hs
        → (k : ℕ) × (k < m) × All (λ h. is_handle p (4 * (k + 1)) h ≡ false) (filter (λ h. not (is_handle p (4 * (m + 1)) h)) hs))
        → (k : ℕ) × (k < suc m) × All (λ h. is_handle p (4 * (k + 1)) h ≡ false) hs
    go false none rest = (m, omega arith, some_or_none (is_handle p (4 * (m + 1))) hs none)
    go true some rest =
        let found = rest (count_fewer (λ h. h.process == p) (is_handle p (4 * (m + 1))) hs (own_handle p (4 * (m + 1))) some) in
        let below : found.0 < m = found.1 in (
          found.0,
          omega (arith, below),
          fails_on_all (is_handle p (4 * (m + 1))) (is_handle p (4 * (found.0 + 1))) hs
              (λ h e. other_value p (4 * (m + 1)) (4 * (found.0 + 1)) h (λ same. omega (arith, below, same)) e) found.2,
        )

-- a process with fewer handles than it may have has a free value
pub free_value : {K T F I : Type 0} (s : State K T F I) (p : ℕ) → table_size s p < most_handles → (value : ℕ) × IsFreeValue s p value
free_value s p few =
    let found = unused_below most_handles p s.handles few in
    let below : found.0 < most_handles = found.1 in
    (4 * (found.0 + 1), ((found.0 + 1, refl, omega arith, omega (arith, below)), find_none (is_handle p (4 * (found.0 + 1))) s.handles found.2))
