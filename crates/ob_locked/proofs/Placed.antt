-- The places that opens that wait have reserved, as opens begin to wait and end; and runs that go on.
use Rattle.std.proofs.Common.{◌≡◌, ◌∙◌, ℕ, ◌+◌, ◌<◌, ◌≤◌, ◌==◌, Bool, true, false, cond, not, List, [], ◌∷◌, ◌++◌, length, filter, find, Some, refl, ap, sym, subst, arith, eqb-true}
use Rattle.std.specs.List.{AllPairs}
use Rattle.std.specs.Option.{option_map_or}
use Rattle.std.proofs.lemmas.Bool.{ne_eqb}
use Rattle.std.proofs.lemmas.List.Elements.{All-weaker}
use Rattle.ob_model.specs.declared.state.PendingOpen.{PendingOpen}
use Rattle.ob_model.specs.Procedures.{Procedures}
use Rattle.ob_model.specs.Run.{Entry, RunFrom}
use Rattle.ob_model.specs.State.{State}
use Rattle.ob_model.specs.Step.{Step}
use Rattle.ob_model.proofs.Finds.{filter_all}
use Rattle.ob_model.proofs.Sorted.{pairs_head, pairs_tail}
use Rattle.ob_locked.specs.Places.{places_for}

pub places-append : {K : Type 0} (xs ys : List (PendingOpen K)) → places_for (xs ++ ys) ≡ places_for xs + places_for ys
places-append [] ys = omega arith
places-append (x ∷ xs) ys = omega (arith, places-append xs ys)

pub places-push : {K : Type 0} (xs : List (PendingOpen K)) (x : PendingOpen K) → places_for (xs ++ x ∷ []) ≡ places_for xs + (x.left + 1)
places-push xs x = omega (arith, places-append xs (x ∷ []))

-- what is found under a ticket has it
pub found_ticket : {K : Type 0} (n : ℕ) (xs : List (PendingOpen K)) (x : PendingOpen K) → find (λ y. y.ticket == n) xs ≡ Some x → x.ticket ≡ n
found_ticket n [] x e = cc
found_ticket {K} n (y ∷ ys) x e = go (y.ticket == n) refl e (found_ticket n ys x)
  where
    go : (b : Bool) → (y.ticket == n) ≡ b → cond b (Some y) (find (λ z. z.ticket == n) ys) ≡ Some x → (find (λ z. z.ticket == n) ys ≡ Some x → x.ticket ≡ n) → x.ticket ≡ n
    go true is e rest = let same : y ≡ x = cc in ap (λ (z : PendingOpen K). z.ticket) (sym same) ∙ eqb-true y.ticket n is
    go false is e rest = rest e

-- an open that waits no longer gives its places back
pub places-without : {K : Type 0} (n : ℕ) (xs : List (PendingOpen K)) (x : PendingOpen K) → AllPairs (λ a b. a.ticket < b.ticket) xs → find (λ y. y.ticket == n) xs ≡ Some x
    → places_for xs ≡ x.left + 1 + places_for (filter (λ y. not (y.ticket == n)) xs)
places-without n [] x rise e = cc
places-without {K} n (y ∷ ys) x rise e =
    go (y.ticket == n) refl e (places-without n ys x (pairs_tail (λ a b. a.ticket < b.ticket) y ys rise))
  where
    Rest : List (PendingOpen K) → Type 0
    Rest left = places_for ys ≡ x.left + 1 + places_for left

    go : (b : Bool) → (y.ticket == n) ≡ b → cond b (Some y) (find (λ z. z.ticket == n) ys) ≡ Some x
        → (find (λ z. z.ticket == n) ys ≡ Some x → places_for ys ≡ x.left + 1 + places_for (filter (λ z. not (z.ticket == n)) ys))
        → y.left + 1 + places_for ys ≡ x.left + 1 + places_for (cond (not b) (y ∷ filter (λ z. not (z.ticket == n)) ys) (filter (λ z. not (z.ticket == n)) ys))
    go true is e rest =
        let same : y ≡ x = cc in
        let number : y.ticket ≡ n = eqb-true y.ticket n is in
        let others : filter (λ z. not (z.ticket == n)) ys ≡ ys =
        filter_all (λ z. not (z.ticket == n)) ys
        (All-weaker (λ z. y.ticket < z.ticket) (λ z. not (z.ticket == n) ≡ true) (λ z less. ap not (ne_eqb z.ticket n (λ one. omega (arith, less, one, number)))) ys
        (pairs_head (λ a b. a.ticket < b.ticket) y ys rise)) in
        omega (arith, ap (λ (z : PendingOpen K). z.left) same, ap places_for others)
    go false is e rest = omega (arith, rest e)

-- what is found under a ticket has no more places than all have
pub found_places : {K : Type 0} (n : ℕ) (xs : List (PendingOpen K)) → option_map_or (λ x. x.left + 1) (find (λ y. y.ticket == n) xs) 0 ≤ places_for xs
found_places n [] = omega arith
found_places {K} n (y ∷ ys) = go (y.ticket == n) (found_places n ys)
  where
    go : (b : Bool) → option_map_or (λ x. x.left + 1) (find (λ z. z.ticket == n) ys) 0 ≤ places_for ys
        → option_map_or (λ x. x.left + 1) (cond b (Some y) (find (λ z. z.ticket == n) ys)) 0 ≤ y.left + 1 + places_for ys
    go true rest = omega arith
    go false rest = omega (arith, rest)

-- a run goes on with a step
pub run_on : {K T F I : Type 0} (g : Procedures K T F I) (s t u : State K T F I) (n : ℕ) (es : List (Entry K)) (e : Entry K)
    → RunFrom g s n es t → e.number ≡ n + length es + 1 → Step g t e.event e.answer u → RunFrom g s n (es ++ e ∷ []) u
run_on g s t u n [] e same number step = (u, omega (arith, number), subst (λ w. Step g w e.event e.answer u) same step, refl)
run_on g s t u n (x ∷ es) e (v, first, made, rest) number step =
    (v, first, made, run_on g v t u (n + 1) es e rest (omega (arith, number)) step)
