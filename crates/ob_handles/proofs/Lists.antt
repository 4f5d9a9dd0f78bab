-- The handles of a table as a finite map from values, with an order.
use Rattle.std.proofs.Common.{◌≡◌, ◌≢◌, ◌∙◌, ℕ, suc, ◌==◌, Bool, true, false, not, cond, List, [], ◌∷◌, ◌++◌, find, Option, None, Some, refl, ap, sym, arith}
use Rattle.std.proofs.Common.{eq-eqb, eqb-true}
use Rattle.std.specs.Option.{option_or}
use Rattle.std.proofs.lemmas.List.Folds.{find-append}
use Rattle.ob_model.specs.declared.state.Held.{Held}
use Rattle.ob_handles.specs.Table.{without}
use Rattle.ob_handles.specs.Laws.{NewHandleIsFound, OthersAreFoundBeside, NewHandleIsTakenBack, TakenHandleIsGone, OthersAreFoundWithout, OldestIsBeforeAll}

or_none : {X : Type 0} (o : Option X) → option_or o None ≡ o
or_none None = refl
or_none (Some x) = refl

differ : (a b : ℕ) → a ≢ b → (b == a) ≡ false
differ a b other = go (b == a) refl
  where
    go : (t : Bool) → (b == a) ≡ t → (b == a) ≡ false
    go true same = absurd (other (let e : b ≡ a = eqb-true b a same in sym e))
    go false apart = apart

pub new_handle_is_found : NewHandleIsFound
new_handle_is_found handles held unused =
    find-append (λ h. h.value == held.value) handles (held ∷ [])
    ∙ ap (λ o. option_or o (find (λ h. h.value == held.value) (held ∷ []))) unused.1
    ∙ ap (λ b. cond b (Some held) None) (eq-eqb held.value held.value refl)

pub others_are_found_beside : OthersAreFoundBeside
others_are_found_beside handles held value other =
    find-append (λ h. h.value == value) handles (held ∷ [])
    ∙ ap (λ b. option_or (find (λ h. h.value == value) handles) (cond b (Some held) None)) (differ value held.value other)
    ∙ or_none (find (λ h. h.value == value) handles)

taken_back : (handles : List Held) (held : Held) → find (λ h. h.value == held.value) handles ≡ None → without (handles ++ held ∷ []) held.value ≡ handles
taken_back [] held none = ap (λ b. cond (not b) (held ∷ []) []) (eq-eqb held.value held.value refl)
taken_back (h ∷ hs) held none = go (h.value == held.value) none (taken_back hs held)
  where
    go : (b : Bool) → cond b (Some h) (find (λ x. x.value == held.value) hs) ≡ None
        → (find (λ x. x.value == held.value) hs ≡ None → without (hs ++ held ∷ []) held.value ≡ hs)
        → cond (not b) (h ∷ without (hs ++ held ∷ []) held.value) (without (hs ++ held ∷ []) held.value) ≡ h ∷ hs
    go true here more = cc
    go false there more = ap (λ xs. h ∷ xs) (more there)

pub new_handle_is_taken_back : NewHandleIsTakenBack
new_handle_is_taken_back handles held unused = taken_back handles held unused.1

pub taken_handle_is_gone : TakenHandleIsGone
taken_handle_is_gone [] value = refl
taken_handle_is_gone (h ∷ hs) value = go (h.value == value) refl (taken_handle_is_gone hs value)
  where
    go : (b : Bool) → (h.value == value) ≡ b → find (λ x. x.value == value) (without hs value) ≡ None
        → find (λ x. x.value == value) (cond (not b) (h ∷ without hs value) (without hs value)) ≡ None
    go true same more = more
    go false other more = ap (λ b. cond b (Some h) (find (λ x. x.value == value) (without hs value))) other ∙ more

pub others_are_found_without : OthersAreFoundWithout
others_are_found_without [] taken value other = refl
others_are_found_without (h ∷ hs) taken value other = go (h.value == taken) refl (others_are_found_without hs taken value other)
  where
    go : (b : Bool) → (h.value == taken) ≡ b → find (λ x. x.value == value) (without hs taken) ≡ find (λ x. x.value == value) hs
        → find (λ x. x.value == value) (cond (not b) (h ∷ without hs taken) (without hs taken)) ≡ cond (h.value == value) (Some h) (find (λ x. x.value == value) hs)
    go true same more =
        more ∙ sym (ap (λ b. cond b (Some h) (find (λ x. x.value == value) hs)) (ap (λ v. v == value) (eqb-true h.value taken same) ∙ differ value taken other))
    go false apart more = ap (cond (h.value == value) (Some h)) more

pub oldest_is_before_all : OldestIsBeforeAll
oldest_is_before_all oldest handles is = λ k d below. is.rising 0 (suc k) d (omega arith) (omega (arith, below))
