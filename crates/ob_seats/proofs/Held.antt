-- What a seat keeps of its opens that wait, while one begins to wait and another ends.
use Rattle.std.proofs.Common.{◌≡◌, ◌≢◌, ◌∙◌, ℕ, ◌<◌, ◌==◌, Bool, true, false, ◌||◌, eqb-true, List, [], ◌∷◌, ◌++◌, ◌⊎◌, inl, inr, All, ap, refl, sym, subst, arith}
use Rattle.std.proofs.lemmas.List.Elements.{All-nil, All-cons, All-head, All-tail}
use Rattle.ob_effects.specs.Waiting.{IsUnderVariable}
use Rattle.std.specs.List.{list_any}
use Rattle.ob_requests.specs.Variables.{Variables, first_variables, with_ticket}
use Rattle.ob_effects.proofs.Tickets.{IsVariableOf, IsSet, is_set, its_number, bytes_same, cleared_listed, cleared_apart, begun_listed, begun_apart}
use Rattle.ob_seats.specs.Kept.{AreHeld, IsNext, for_worker, without}
use Rattle.ob_seats.specs.Stopped.{IsNewTicket, IsNotKept}
use Rattle.ob_seats.specs.declared.stop.Stop.{Stop}
use Rattle.ob_seats.specs.declared.stop.Stop.TheVariants.{Memory, Refused}

module _ (variables : Variables) (process : ℕ) (variable : List ℕ) where
  abbrev Cleared : Variables
  Cleared = with_ticket variables process variable 0

  -- the ticket under a variable is kept
  pub is_listed : (tickets : List ℕ) → AreHeld variables.tickets tickets → variables.tickets process variable ≢ 0 → list_any (λ n. n == variables.tickets process variable) tickets ≡ true
  is_listed tickets held some = elim (held.listed.all process variable) as (λ x. list_any (λ n. n == variables.tickets process variable) tickets ≡ true) [
    | inl none ↦ absurd (some none)
    | inr is ↦ is
  ]

  -- the open under a variable waits no longer
  pub held_cleared : (tickets : List ℕ) → variables.tickets process variable ≢ 0 → AreHeld variables.tickets tickets → AreHeld Cleared.tickets (without (variables.tickets process variable) tickets)
  held_cleared tickets some held = record {
    listed = cleared_listed variables.tickets Cleared.tickets process variable (variables.tickets process variable) refl some (is_set variables.tickets process variable 0) held.apart tickets held.listed;
    apart = cleared_apart variables.tickets Cleared.tickets process variable (variables.tickets process variable) refl some (is_set variables.tickets process variable 0) held.apart;
  }

  is_clear : Cleared.tickets process variable ≡ 0
  is_clear = elim (is_set variables.tickets process variable 0 process variable) as (λ x. Cleared.tickets process variable ≡ 0) [
    | inl (is, none) ↦ none
    | inr (other, same) ↦ absurd (other (refl, bytes_same variable variable refl))
  ]

  -- a variable that was cleared is set
  set_again : (n : ℕ) → IsSet Cleared.tickets (with_ticket variables process variable n).tickets process variable n
  set_again n p w = go (is_set variables.tickets process variable 0 p w) (is_set variables.tickets process variable n p w)
    where
      go : (IsVariableOf process variable p w × (Cleared.tickets p w ≡ 0)) ⊎ ((IsVariableOf process variable p w → ⊥) × (Cleared.tickets p w ≡ variables.tickets p w))
          → (IsVariableOf process variable p w × ((with_ticket variables process variable n).tickets p w ≡ n)) ⊎ ((IsVariableOf process variable p w → ⊥) × ((with_ticket variables process variable n).tickets p w ≡ variables.tickets p w))
          → (IsVariableOf process variable p w × ((with_ticket variables process variable n).tickets p w ≡ n)) ⊎ ((IsVariableOf process variable p w → ⊥) × ((with_ticket variables process variable n).tickets p w ≡ Cleared.tickets p w))
      go x (inl is) = inl is
      go (inl (is, none)) (inr (other, same)) = absurd (other is)
      go (inr (other, cleared)) (inr (other_too, same)) = inr (other, same ∙ sym cleared)

  -- another open begins to wait there
  pub held_begun : (n : ℕ) (tickets : List ℕ) → n ≢ 0 → All (λ k. k < n) tickets → AreHeld Cleared.tickets tickets → AreHeld (with_ticket variables process variable n).tickets (tickets ++ n ∷ [])
  held_begun n tickets some below held = record {
    listed = begun_listed Cleared.tickets (with_ticket variables process variable n).tickets process variable n is_clear some (set_again n) tickets below held.listed;
    apart = begun_apart Cleared.tickets (with_ticket variables process variable n).tickets process variable n is_clear some (set_again n) tickets below held.listed held.apart;
  }

  -- a variable under which no open waits is cleared
  pub freed : variables.tickets process variable ≡ 0 → Cleared.tickets ≡ variables.tickets
  freed free = λ i p w. one p w i
    where
      one : (p : ℕ) (w : List ℕ) → Cleared.tickets p w ≡ variables.tickets p w
      one p w = elim (is_set variables.tickets process variable 0 p w) as (λ x. Cleared.tickets p w ≡ variables.tickets p w) [
        | inl (is, none) ↦ none ∙ sym (its_number variables.tickets process p variable w is ∙ free)
        | inr (other, same) ↦ same
      ]

  pub held_freed : (tickets : List ℕ) → variables.tickets process variable ≡ 0 → AreHeld variables.tickets tickets → AreHeld Cleared.tickets tickets
  held_freed tickets free held = subst (λ f. AreHeld f tickets) (sym (freed free)) held

  pub held_ended : (n : ℕ) (old new : List ℕ) → variables.tickets process variable ≡ n → n ≢ 0 → AreHeld variables.tickets old → new ≡ without n old → AreHeld Cleared.tickets new
  held_ended n old new under some held left =
      subst (AreHeld Cleared.tickets) (sym (left ∙ ap (λ k. without k old) (sym under))) (held_cleared old (λ none. some (sym under ∙ none)) held)

-- no open waits
none_waits : AreHeld (λ p w. 0) []
none_waits = record {
  listed = record { rising = λ i j d before inside. absurd (omega (arith, inside)); held = All-nil (IsUnderVariable (λ p w. 0)); all = λ p w. inl refl };
  apart = λ p q a b e. inl refl;
}

pub none_held : (variables : Variables) (tickets : List ℕ) → variables ≡ first_variables → tickets ≡ [] → AreHeld variables.tickets tickets
none_held variables tickets first none = subst (AreHeld variables.tickets) (sym none) (subst (λ (w : Variables). AreHeld w.tickets []) (sym first) none_waits)

pub none_under : (was variables : Variables) (tickets : List ℕ) → variables ≡ for_worker was → tickets ≡ [] → AreHeld variables.tickets tickets
none_under was variables tickets same none = subst (AreHeld variables.tickets) (sym none) (subst (λ (w : Variables). AreHeld w.tickets []) (sym same) none_waits)

-- ---- a ticket that may be kept, of the tickets and of the variables under which they are

-- a ticket that is among tickets is below what is above them all
below_all : (tickets : List ℕ) (n k : ℕ) → All (λ j. j < n) tickets → list_any (λ j. j == k) tickets ≡ true → k < n
below_all [] n k below there = cc
below_all (t ∷ tickets) n k below there = go (t == k) refl there (below_all tickets n k (All-tail (λ j. j < n) t tickets below))
  where
    go : (is : Bool) → t == k ≡ is → (is || list_any (λ j. j == k) tickets) ≡ true → (list_any (λ j. j == k) tickets ≡ true → k < n) → k < n
    go true same there on = omega (arith, eqb-true t k same, All-head (λ j. j < n) t tickets below)
    go false same there on = on there

-- and so are all tickets that are under variables
under_below : (under : ℕ → List ℕ → ℕ) (tickets : List ℕ) (n : ℕ) → All (IsUnderVariable under) tickets → ((process : ℕ) (variable : List ℕ) → under process variable < n)
    → All (λ j. j < n) tickets
under_below under [] n held below = All-nil (λ j. j < n)
under_below under (t ∷ tickets) n held below =
    let (some, (process, variable, is)) = All-head (IsUnderVariable under) t tickets held in
    All-cons (λ j. j < n) t tickets (omega (arith, is, below process variable)) (under_below under tickets n (All-tail (IsUnderVariable under) t tickets held) below)

module _ (variables : Variables) (tickets : List ℕ) (held : AreHeld variables.tickets tickets) (n : ℕ) where
  new_from_next : IsNext tickets n → IsNewTicket variables n
  new_from_next (some, below) process variable = elim (held.listed.all process variable) as (λ x. variables.tickets process variable < n) [
    | inl none ↦ omega (arith, none, some)
    | inr there ↦ below_all tickets n (variables.tickets process variable) below there
  ]

  next_from_new : IsNewTicket variables n → IsNext tickets n
  next_from_new new = ((λ none. absurd (omega (arith, none, new 0 []))), under_below variables.tickets tickets n held.listed.held new)

  -- why the parse of a ticket isn't kept
  pub not_kept : (why : Stop) → ((why ≡ Memory) × IsNext tickets n) ⊎ ((why ≡ Refused) × (¬ IsNext tickets n)) → IsNotKept variables n why
  not_kept why (inl (memory, next)) = inl (memory, new_from_next next)
  not_kept why (inr (refused, not)) = inr (refused, λ new. not (next_from_new new))
