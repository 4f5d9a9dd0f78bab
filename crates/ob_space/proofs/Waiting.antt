-- How many opens are pending under other tickets.
use Rattle.std.proofs.Common.{◌≡◌, ℕ, ◌+◌, ◌<◌, ◌==◌, not, cond, Bool, true, false, List, [], ◌∷◌, length, filter, find, None, Some, ap, refl, arith, eqb-true}
use Rattle.std.specs.List.{AllPairs}
use Rattle.std.proofs.lemmas.Bool.{ne_eqb}
use Rattle.std.proofs.lemmas.List.Elements.{All-weaker}
use Rattle.ob_model.specs.declared.state.PendingOpen.{PendingOpen}
use Rattle.ob_model.proofs.Finds.{filter_all, not_found}
use Rattle.ob_model.proofs.Sorted.{pairs_head, pairs_tail}

module _ {K : Type 0} (ticket : ℕ) where
  abbrev others : List (PendingOpen K) → List (PendingOpen K)
  others xs = filter (λ x. not (x.ticket == ticket)) xs

  -- where none is pending under the ticket they are all
  pub none_less : (xs : List (PendingOpen K)) → find (λ x. x.ticket == ticket) xs ≡ None → length xs ≡ length (others xs)
  none_less xs none =
      let all : others xs ≡ xs = filter_all (λ x. not (x.ticket == ticket)) xs
      (All-weaker (λ x. (x.ticket == ticket) ≡ false) (λ x. not (x.ticket == ticket) ≡ true) (λ x e. ap not e) xs (not_found (λ x. x.ticket == ticket) xs none)) in
      rw all refl

  -- and else all but one
  pub one_less : (xs : List (PendingOpen K)) (x : PendingOpen K) → AllPairs (λ a b. a.ticket < b.ticket) xs → find (λ x. x.ticket == ticket) xs ≡ Some x → length xs ≡ length (others xs) + 1
  one_less [] x rising found = cc
  one_less (y ∷ ys) x rising found = go (y.ticket == ticket) refl found (one_less ys x (pairs_tail (λ (a b : PendingOpen K). a.ticket < b.ticket) y ys rising))
    where
      go : (b : Bool) → (y.ticket == ticket) ≡ b → cond b (Some y) (find (λ z. z.ticket == ticket) ys) ≡ Some x → (find (λ z. z.ticket == ticket) ys ≡ Some x → length ys ≡ length (others ys) + 1)
          → length (y ∷ ys) ≡ length (cond (not b) (y ∷ others ys) (others ys)) + 1
      go true e is rest =
          let left : others ys ≡ ys = filter_all (λ z. not (z.ticket == ticket)) ys
          (All-weaker (λ z. y.ticket < z.ticket) (λ z. not (z.ticket == ticket) ≡ true)
          (λ z less. ap not (ne_eqb z.ticket ticket (λ same. omega (arith, less, same, eqb-true y.ticket ticket e)))) ys (pairs_head (λ (a b : PendingOpen K). a.ticket < b.ticket) y ys rising)) in
          let as_many : length (others ys) ≡ length ys = ap length left in
          omega (arith, as_many)
      go false e is rest = let more = rest is in omega (arith, more)
