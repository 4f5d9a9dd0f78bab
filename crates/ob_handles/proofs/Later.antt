-- The first handle that was opened after an order: its opening is the first after that order which isn't stale.
use Rattle.std.proofs.Common.{◌≡◌, ◌∙◌, ℕ, zero, suc, ◌<◌, ◌≤◌, ltb, leb, Bool, true, false, not, cond, List, [], ◌∷◌, length, get_or, drop, slice_get, find, Option, None, Some, All, refl, ap, sym, arith, ◌⊎◌, inl, inr}
use Rattle.std.proofs.lemmas.Bool.{cases_lt}
use Rattle.std.proofs.lemmas.Bool.Decides.{nat_tests}
use Rattle.std.proofs.lemmas.Iterator.{YieldsList}
use Rattle.std.proofs.lemmas.Iterator.Consumers.{nth_from_yields_List}
use Rattle.std.proofs.lemmas.List.{length-drop, take_all}
use Rattle.std.proofs.lemmas.List.Elements.{All-head}
use Rattle.std.proofs.lemmas.List.Sorted.{IsPartitionedBy-leb}
use Rattle.std.specs.List.{cons_option, slice_range}
use Rattle.std.specs.List.Sorted.{IsPartitionPoint, IsPartitionedBy}
use Rattle.ob_model.specs.declared.state.Held.{Held}
use Rattle.ob_handles.specs.declared.openings.Opening.{Opening}
use Rattle.ob_handles.specs.Openings.{Rows, held_by, handles_of, AreRising}
use Rattle.ob_handles.proofs.SlabLists.{All-filter_map}
use Rattle.ob_handles.proofs.Stale.{row_of_held}

-- what an iterator gives next is the first of what it yields
pub next_yielded : {S A : Type 0} {steps : S → Option A → S → Type 0} {s : S} (rest : S) (next : Option A) (all : List A) → steps s next rest
    → YieldsList steps (λ x. x) s all → next ≡ slice_get all 0
next_yielded rest None all step yields = nth_from_yields_List None rest 0 ([], (_, refl, step), omega arith) yields
next_yielded rest (Some x) all step yields = nth_from_yields_List (Some x) rest 0 ([], (_, refl, step), refl) yields

-- openings up to an order stand before the others
pub openings-parted : (opened : List Opening) (order : ℕ) → AreRising opened → IsPartitionedBy (λ o. leb o.order order) opened
openings-parted opened order rising = IsPartitionedBy-leb (λ o. o.order) opened order no_less
  where
    no_less : (i j : ℕ) (d : Opening) → i ≤ j → j < length opened → (get_or opened i d).order ≤ (get_or opened j d).order
    no_less i j d upto below = go (cases_lt i j)
      where
        go : (i < j) ⊎ (j ≤ i) → (get_or opened i d).order ≤ (get_or opened j d).order
        go (inl less) = omega (arith, rising i j d less below)
        go (inr same) = let equal : i ≡ j = omega (arith, upto, same) in rw equal (omega arith)

-- where each element passes, the first is found
first_found : {X : Type 0} (test : X → Bool) (xs : List X) → All (λ x. test x ≡ true) xs → slice_get xs 0 ≡ find test xs
first_found test [] all = refl
first_found test (x ∷ xs) all = sym (ap (λ b. cond b (Some x) (find test xs)) (All-head (λ x. test x ≡ true) x xs all))

module _ (rows : Rows) (order : ℕ) where
  -- a handle was opened after an order exactly where its opening has a greater one
  is_after : (b : Bool) (opening : Opening) (held : Held) → held_by rows opening ≡ Some held → leb opening.order order ≡ b → ltb order held.order ≡ not b
  is_after b opening held found test = turned opening.order held.order (row_of_held rows opening held found).1 test
    where
      turned : (a c : ℕ) → c ≡ a → leb a order ≡ b → ltb order c ≡ not b
      turned a c same test = grind (arith, nat_tests)

  all_after : (opened : List Opening) → All (λ o. leb o.order order ≡ false) opened → slice_get (handles_of rows opened) 0 ≡ find (λ h. ltb order h.order) (handles_of rows opened)
  all_after opened above =
      first_found (λ h. ltb order h.order) (handles_of rows opened)
      (All-filter_map (held_by rows) (λ h. ltb order h.order ≡ true) opened (λ k d below. λ held found. is_after false (get_or opened k d) held found (above k d below)))

  -- it is found among those from the place on where the greater orders begin
  found_from : (opened : List Opening) (place : ℕ) → IsPartitionPoint (λ o. leb o.order order ≡ true) (λ o. leb o.order order ≡ false) opened place
      → slice_get (handles_of rows (drop place opened)) 0 ≡ find (λ h. ltb order h.order) (handles_of rows opened)
  found_from opened zero parted = all_after opened (λ k d below. parted.1 k d (omega arith) below)
  found_from [] (suc place) parted = refl
  found_from (o ∷ os) (suc place) parted =
      go (held_by rows o) refl (found_from os place (λ k d low high. parted.0 (suc k) d (omega arith) (omega (arith, high)), λ k d low high. parted.1 (suc k) d (omega (arith, low)) (omega (arith, high))))
    where
      go : (held : Option Held) → held_by rows o ≡ held → slice_get (handles_of rows (drop place os)) 0 ≡ find (λ h. ltb order h.order) (handles_of rows os)
          → slice_get (handles_of rows (drop place os)) 0 ≡ find (λ h. ltb order h.order) (cons_option held (handles_of rows os))
      go None stale more = more
      go (Some h) leads more = more ∙ sym (ap (λ b. cond b (Some h) (find (λ x. ltb order x.order) (handles_of rows os))) (is_after true o h leads (parted.0 0 o (omega arith) (omega arith))))

  pub first_after : (opened : List Opening) (place end : ℕ) (next : Option Held) → end ≡ length opened
      → IsPartitionPoint (λ o. leb o.order order ≡ true) (λ o. leb o.order order ≡ false) opened place → next ≡ slice_get (handles_of rows (slice_range opened place end)) 0
      → next ≡ find (λ h. ltb order h.order) (handles_of rows opened)
  first_after opened place end next all parted is =
      is ∙ ap (λ os. slice_get (handles_of rows os) 0) (take_all _ (drop place opened) (omega (arith, all, length-drop place opened))) ∙ found_from opened place parted
