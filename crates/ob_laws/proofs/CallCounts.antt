-- Lists of calls on one object: from how many handles they lead to how many, what that says of each close and of a
-- delete, and how many handles each close leaves in its process.
use Rattle.std.proofs.Common.{◌≡◌, ◌∙◌, ℕ, ◌+◌, Bool, true, false, cond, ◌||◌, List, [], ◌∷◌, ◌++◌, ◌⊎◌, inl, inr, refl, ap, sym, subst, arith}
use Rattle.std.proofs.lemmas.Bool.{false≢true}
use Rattle.std.proofs.lemmas.List.Sums.{sum_by-cons}
use Rattle.ob_model.specs.Calls.{Call, Opened, Closed, Deleted}
use Rattle.ob_model.specs.Lifetimes.{is_open, is_close, opens, closings, ClosesAreCounted, DeleteIsLast}

-- whether the delete is among these calls
abbrev pub has_delete : List Call → Bool
has_delete [] = false
has_delete (Opened reason ∷ calls) = has_delete calls
has_delete (Closed process_left system_left ∷ calls) = has_delete calls
has_delete (Deleted ∷ calls) = true

-- These calls lead from n handles to m: an open makes one more, a close one less and is given those that are left, and
-- a delete is the last call, where no handle is left.
abbrev pub Tells : ℕ → List Call → ℕ → Type 0
Tells n [] m = n ≡ m
Tells n (Opened reason ∷ calls) m = Tells (n + 1) calls m
Tells n (Closed process_left system_left ∷ calls) m = (n ≡ system_left + 1) × Tells system_left calls m
Tells n (Deleted ∷ calls) m = (n ≡ 0) × (calls ≡ []) × (m ≡ 0)

-- Each close among these calls is given, as the handles that are left in its process, so many and those that are closed
-- behind it.
abbrev pub Leaves : ℕ → List Call → Type 0
Leaves left [] = Unit {0}
Leaves left (Opened reason ∷ calls) = Leaves left calls
Leaves left (Closed process_left system_left ∷ calls) = (process_left ≡ left + closings calls) × Leaves left calls
Leaves left (Deleted ∷ calls) = Leaves left calls

-- ---- counts of calls

opens-cons : (call : Call) (calls : List Call) → opens (call ∷ calls) ≡ cond (is_open call) 1 0 + opens calls
opens-cons call calls = sum_by-cons (λ c. cond (is_open c) 1 0) call calls

pub closings-cons : (call : Call) (calls : List Call) → closings (call ∷ calls) ≡ cond (is_close call) 1 0 + closings calls
closings-cons call calls = sum_by-cons (λ c. cond (is_close c) 1 0) call calls

pub closings-deleted : (calls : List Call) → closings (calls ++ Deleted ∷ []) ≡ closings calls
closings-deleted [] = refl
closings-deleted (call ∷ calls) =
    closings-cons call (calls ++ Deleted ∷ []) ∙ ap (λ n. cond (is_close call) 1 0 + n) (closings-deleted calls) ∙ sym (closings-cons call calls)

not_nil : {X : Type 0} (xs : List X) (y : X) (ys : List X) → xs ++ y ∷ ys ≡ [] → ⊥
not_nil [] y ys e = cc
not_nil (x ∷ xs) y ys e = cc

-- ---- one list of calls behind another

pub tells-append : (n k m : ℕ) (calls more : List Call) → has_delete calls ≡ false → Tells n calls k → Tells k more m → Tells n (calls ++ more) m
tells-append n k m [] more kept first next = subst (λ i. Tells i more m) (sym first) next
tells-append n k m (Opened reason ∷ calls) more kept first next = tells-append (n + 1) k m calls more kept first next
tells-append n k m (Closed process_left system_left ∷ calls) more kept first next = (first.0, tells-append system_left k m calls more kept first.1 next)
tells-append n k m (Deleted ∷ calls) more kept first next = absurd (false≢true (sym kept))

pub has_delete-append : (calls more : List Call) → has_delete (calls ++ more) ≡ (has_delete calls || has_delete more)
has_delete-append [] more = refl
has_delete-append (Opened reason ∷ calls) more = has_delete-append calls more
has_delete-append (Closed process_left system_left ∷ calls) more = has_delete-append calls more
has_delete-append (Deleted ∷ calls) more = refl

pub has_delete-split : (before behind : List Call) → has_delete (before ++ Deleted ∷ behind) ≡ true
has_delete-split [] behind = refl
has_delete-split (Opened reason ∷ calls) behind = has_delete-split calls behind
has_delete-split (Closed process_left system_left ∷ calls) behind = has_delete-split calls behind
has_delete-split (Deleted ∷ calls) behind = refl

pub leaves-deleted : (left : ℕ) (calls : List Call) → Leaves left calls → Leaves left (calls ++ Deleted ∷ [])
leaves-deleted left [] h = tt
leaves-deleted left (Opened reason ∷ calls) h = leaves-deleted left calls h
leaves-deleted left (Closed process_left system_left ∷ calls) h = (h.0 ∙ ap (λ n. left + n) (sym (closings-deleted calls)), leaves-deleted left calls h.1)
leaves-deleted left (Deleted ∷ calls) h = leaves-deleted left calls h

-- ---- what holds of each close, and of a delete

counted_from : (n m : ℕ) (before behind : List Call) (process_left system_left : ℕ)
    → Tells n (before ++ Closed process_left system_left ∷ behind) m → system_left + (closings before + 1) ≡ n + opens before
counted_from n m [] behind process_left system_left h = let e : n ≡ system_left + 1 = h.0 in omega (arith, e)
counted_from n m (Opened reason ∷ calls) behind process_left system_left h =
    let rest = counted_from (n + 1) m calls behind process_left system_left h in
    let more : opens (Opened reason ∷ calls) ≡ 1 + opens calls = opens-cons (Opened reason) calls in
    let same : closings (Opened reason ∷ calls) ≡ 0 + closings calls = closings-cons (Opened reason) calls in
    omega (arith, rest, more, same)
counted_from n m (Closed a b ∷ calls) behind process_left system_left h =
    let rest = counted_from b m calls behind process_left system_left h.1 in
    let less : n ≡ b + 1 = h.0 in
    let same : opens (Closed a b ∷ calls) ≡ 0 + opens calls = opens-cons (Closed a b) calls in
    let more : closings (Closed a b ∷ calls) ≡ 1 + closings calls = closings-cons (Closed a b) calls in
    omega (arith, rest, less, more, same)
counted_from n m (Deleted ∷ calls) behind process_left system_left h = absurd (not_nil calls (Closed process_left system_left) behind h.1)

pub closes_are_counted : (m : ℕ) (calls : List Call) → Tells 0 calls m → ClosesAreCounted calls
closes_are_counted m calls tells before behind process_left system_left e =
    let counted = counted_from 0 m before behind process_left system_left (subst (λ cs. Tells 0 cs m) e tells) in omega (arith, counted)

-- no handle is left at the end of these calls, from n on
abbrev EndsAtNone : ℕ → List Call → Type 0
EndsAtNone n calls = ((calls ≡ []) × (n ≡ 0)) ⊎ ((front : List Call) × (process_left : ℕ) × (calls ≡ front ++ Closed process_left 0 ∷ []))

one_before : (n : ℕ) (call : Call) (calls : List Call) → ((calls ≡ []) × (n ≡ 0) → EndsAtNone 0 (call ∷ calls)) → EndsAtNone n calls → EndsAtNone 0 (call ∷ calls)
one_before n call calls alone (inl none) = alone none
one_before n call calls alone (inr ends) = inr (call ∷ ends.0, ends.1, ap (λ cs. call ∷ cs) ends.2)

other_start : (n m : ℕ) (call : Call) (calls : List Call) → EndsAtNone n (call ∷ calls) → EndsAtNone m (call ∷ calls)
other_start n m call calls (inl none) = let e : call ∷ calls ≡ [] = none.0 in cc
other_start n m call calls (inr ends) = inr ends

deleted_from : (n m : ℕ) (before behind : List Call) → Tells n (before ++ Deleted ∷ behind) m → (behind ≡ []) × EndsAtNone n before
deleted_from n m [] behind h = (h.1, inl (refl, h.0))
deleted_from n m (Opened reason ∷ calls) behind h =
    let rest = deleted_from (n + 1) m calls behind h in (
      rest.0,
      other_start 0 n (Opened reason) calls (one_before (n + 1) (Opened reason) calls (λ none. let e : n + 1 ≡ 0 = none.1 in absurd (omega (arith, e))) rest.1),
    )
deleted_from n m (Closed a b ∷ calls) behind h =
    let rest = deleted_from b m calls behind h.1 in
    (rest.0, other_start 0 n (Closed a b) calls (one_before b (Closed a b) calls (λ none. inr ([], a, λ i. Closed a (none.1 i) ∷ none.0 i)) rest.1))
deleted_from n m (Deleted ∷ calls) behind h = absurd (not_nil calls Deleted behind h.1)

pub delete_is_last : (m : ℕ) (calls : List Call) → Tells 0 calls m → DeleteIsLast calls
delete_is_last m calls tells before behind e =
    let split = deleted_from 0 m before behind (subst (λ cs. Tells 0 cs m) e tells) in (split.0, go split.1)
  where
    go : EndsAtNone 0 before → (opens before ≡ 0) ⊎ ((front : List Call) × (process_left : ℕ) × (before ≡ front ++ Closed process_left 0 ∷ []))
    go (inl none) = inl (ap opens none.0)
    go (inr ends) = inr ends

left_from : (left : ℕ) (before behind : List Call) (process_left system_left : ℕ) → Leaves left (before ++ Closed process_left system_left ∷ behind) → process_left ≡ left + closings behind
left_from left [] behind process_left system_left h = h.0
left_from left (Opened reason ∷ calls) behind process_left system_left h = left_from left calls behind process_left system_left h
left_from left (Closed a b ∷ calls) behind process_left system_left h = left_from left calls behind process_left system_left h.1
left_from left (Deleted ∷ calls) behind process_left system_left h = left_from left calls behind process_left system_left h

pub closes_leave : (left : ℕ) (calls : List Call) → Leaves left calls
    → (before behind : List Call) (process_left system_left : ℕ) → calls ≡ before ++ Closed process_left system_left ∷ behind → process_left ≡ left + closings behind
closes_leave left calls leaves before behind process_left system_left e = left_from left before behind process_left system_left (subst (Leaves left) e leaves)
