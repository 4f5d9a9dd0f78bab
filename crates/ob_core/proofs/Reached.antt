-- A state behind a step is one that a run leads to, and so is one where the last handle has another value.
use Rattle.std.proofs.Common.{◌≡◌, ◌∙◌, ℕ, ◌+◌, Bool, true, false, cond, List, [], ◌∷◌, ◌++◌, find, None, Some, refl, ap, sym, subst}
use Rattle.std.specs.Prelude.{Result, IfOk, OnErr}
use Rattle.ob_model.specs.Choice.{revalued, answer_under}
use Rattle.ob_model.proofs.ChosenSteps.{step_last, step_under}
use Rattle.ob_model.specs.Closing.{is_handle}
use Rattle.ob_model.specs.declared.reply.Answer.{Answer}
use Rattle.ob_model.specs.declared.reply.Event.{Event}
use Rattle.ob_model.specs.declared.state.Held.{Held}
use Rattle.ob_model.specs.Grants.{IsFreeValue}
use Rattle.ob_model.specs.Opening.{opening}
use Rattle.ob_model.specs.Procedures.{Procedures}
use Rattle.ob_model.specs.Run.{Entry, RunFrom}
use Rattle.ob_model.specs.State.{State}
use Rattle.ob_model.specs.Step.{Step}
use Rattle.ob_space.proofs.Results.{from_result}
use Rattle.ob_core.specs.Reached.{IsJustGiven, IsReached}
use Rattle.ob_core.proofs.Revalued.{IsLastHandle}

-- what isn't found among more isn't found among the first of them
none_in_front : (test : Held → Bool) (hs is : List Held) → find test (hs ++ is) ≡ None → find test hs ≡ None
none_in_front test [] is none = refl
none_in_front test (h ∷ hs) is none = go (test h) refl (none_in_front test hs is)
  where
    go : (b : Bool) → test h ≡ b → (find test (hs ++ is) ≡ None → find test hs ≡ None) → find test (h ∷ hs) ≡ None
    go true passes rest = let found : Some h ≡ None = sym (ap (λ b. cond b (Some h) (find test (hs ++ is))) passes) ∙ none in cc
    go false fails rest = ap (λ b. cond b (Some h) (find test hs)) fails ∙ rest (sym (ap (λ b. cond b (Some h) (find test (hs ++ is))) fails) ∙ none)

module _ {K T F I : Type 0} (g : Procedures K T F I) where
  run_on : (s : State K T F I) (n : ℕ) (entries : List (Entry K)) (t u : State K T F I) (event : Event K) (answer : Answer)
      → RunFrom g s n entries t → Step g t event answer u → (more : List (Entry K)) × RunFrom g s n more u
  run_on s n [] t u event answer run step =
      (record { number = n + 1; seat = 0; event = event; answer = answer } ∷ [], (u, refl, subst (λ x. Step g x event answer u) run step, refl))
  run_on s n (e ∷ entries) t u event answer run step =
      let more = run_on run.0 (n + 1) entries t u event answer run.3 step in
      (e ∷ more.0, (run.0, run.1, run.2, more.1))

  pub opening_reached : (first : T) → IsReached g (opening first)
  opening_reached first = (first, [], refl)

  pub reached_behind : (s t : State K T F I) (event : Event K) (answer : Answer) → IsReached g s → Step g s event answer t → IsReached g t
  reached_behind s t event answer reached step =
      let more = run_on (opening reached.0) 0 reached.1 s t event answer reached.2 step in
      (reached.0, more.0, more.1)

  pub reached_stepped : {R E : Type 0} (s t : State K T F I) (event : Event K) (result : Result R E) (answer : R → Answer)
      → IsReached g s → IfOk result (λ r. Step g s event (answer r) t) → OnErr result (t ≡ s) → IsReached g t
  reached_stepped s t event result answer reached made unmade =
      from_result result _ _ _ (λ r step. reached_behind s t event (answer r) reached step) (λ same. subst (IsReached g) (sym same) reached) made unmade

  module _ (s : State K T F I) (p from : ℕ) (given : IsJustGiven g s p from) where
    pub last_given : IsLastHandle s p from
    last_given =
        let last = step_last g given.0 s given.1 given.2 p from given.4 given.6 given.5 in
        (given.0.handles, last.0, last.1, last.2, last.3)

    pub reached_revalued : (to : ℕ) → IsFreeValue s p to → IsReached g (revalued to s)
    reached_revalued to free =
        let last = step_last g given.0 s given.1 given.2 p from given.4 given.6 given.5 in
        reached_behind given.0 (revalued to s) given.1 (answer_under to given.2) given.3
        (step_under g given.0 s given.1 given.2 p from to given.4 given.6 given.5
        (free.0, none_in_front (is_handle p to) given.0.handles (last.0 ∷ []) (sym (ap (find (is_handle p to)) last.1) ∙ free.1)))
