-- The calls that are told of a run make what the run leaves, one step after another.
use Rattle.std.proofs.Common.{◌≡◌, ◌≢◌, ◌∙◌, ℕ, ◌+◌, ◌<◌, ◌==◌, Bool, true, false, cond, List, [], ◌∷◌, ◌++◌, filter, find, map, All, Option, None, Some, option_map, refl, ap, sym, subst, arith, eq-eqb}
use Rattle.std.specs.Option.{option_and_then, option_or}
use Rattle.std.specs.List.{AllByRecursion}
use Rattle.std.proofs.lemmas.List.Elements.{All-nil, All-cons, All-from_recursion}
use Rattle.std.proofs.lemmas.List.Kept.{AllPairs-cons}
use Rattle.ob_model.specs.declared.state.Object.{Object}
use Rattle.ob_model.specs.State.{State}
use Rattle.ob_model.specs.Opening.{opening}
use Rattle.ob_model.specs.Procedures.{Procedures}
use Rattle.ob_model.specs.Sound.{IsSound}
use Rattle.ob_model.specs.Calls.{Passed, Passes, left_by, calls_of_run}
use Rattle.ob_model.proofs.Soundness.{opening_sound}
use Rattle.ob_model.proofs.Steps.{step_sound}
use Rattle.ob_laws.specs.CallsMade.{Made, calls_on, inner_of, inside, after_calls, FindValues, made_in_step, made_in_run, begins_with, AreMade}
use Rattle.ob_laws.proofs.LifeOf.{IsTaken}
use Rattle.ob_laws.proofs.Follows.{calls_on-append, after_calls-append, finds-append, Follows, follows_still}
use Rattle.ob_laws.proofs.DeletedObjects.{Rise}
use Rattle.ob_laws.proofs.NewValues.{joined, joined-none, joined-twice, calls_apart, finds_apart}
use Rattle.ob_laws.proofs.RisingNumbers.{Rises, rises_step}
use Rattle.ob_laws.proofs.StepMoves.{step_follows}
use Rattle.ob_laws.proofs.TakenCalls.{stays_taken, none_made, called_taken}

-- what holds of each object on which there is a call holds of each call's object
each_called : (P : ℕ → Type 0) (log : List Made) → ((o : ℕ) → calls_on log o ≢ [] → P o) → All (λ m. P m.object) log
each_called P [] holds = All-nil (λ m. P m.object)
each_called P (m ∷ log) holds =
    All-cons (λ x. P x.object) m log (holds m.object (λ e. itself (sym (ap (λ b. map (λ x. x.call) (cond b (m ∷ filter (λ x. x.object == m.object) log) (filter (λ x. x.object == m.object) log))) (eq-eqb m.object m.object refl)) ∙ e)))
    (each_called P log (λ o some. holds o (λ e. some (fewer o (m.object == o) e))))
  where
    itself : m.call ∷ calls_on log m.object ≡ [] → ⊥
    itself e = cc

    fewer : (o : ℕ) (b : Bool) → map (λ x. x.call) (cond b (m ∷ filter (λ x. x.object == o) log) (filter (λ x. x.object == o) log)) ≡ [] → calls_on log o ≡ []
    fewer o true e = cc
    fewer o false e = e

-- objects without inner values
abbrev ArePlain : {F I : Type 0} → List (Object F I) → Type 0
ArePlain [] = Unit {0}
ArePlain (x ∷ xs) = (inner_of x.body ≡ None) × ArePlain xs

plain_has_none : {F I : Type 0} (xs : List (Object F I)) → ArePlain xs → (o : ℕ) → option_and_then inner_of (option_map (λ x. x.body) (find (λ x. x.id == o) xs)) ≡ None
plain_has_none [] plain o = refl
plain_has_none {F} {I} (x ∷ xs) plain o = go (x.id == o) (plain_has_none xs plain.1 o)
  where
    go : (b : Bool) → option_and_then inner_of (option_map (λ y. y.body) (find (λ y. y.id == o) xs)) ≡ None
        → option_and_then inner_of (option_map (λ y. y.body) (cond b (Some x) (find (λ y. y.id == o) xs))) ≡ None
    go true rest = plain.0
    go false rest = rest

-- the first six numbers rise
six_rise : Rise (1 ∷ 2 ∷ 3 ∷ 4 ∷ 5 ∷ 6 ∷ [])
six_rise =
    more 1 (2 ∷ 3 ∷ 4 ∷ 5 ∷ 6 ∷ []) (omega arith, (omega arith, (omega arith, (omega arith, (omega arith, tt)))))
    (more 2 (3 ∷ 4 ∷ 5 ∷ 6 ∷ []) (omega arith, (omega arith, (omega arith, (omega arith, tt))))
    (more 3 (4 ∷ 5 ∷ 6 ∷ []) (omega arith, (omega arith, (omega arith, tt)))
    (more 4 (5 ∷ 6 ∷ []) (omega arith, (omega arith, tt)) (more 5 (6 ∷ []) (omega arith, tt) (more 6 [] tt (λ i j d before within. absurd (omega (arith, within))))))))
  where
    more : (n : ℕ) (ns : List ℕ) → AllByRecursion (λ k. n < k) ns → Rise ns → Rise (n ∷ ns)
    more n ns above rise = AllPairs-cons (λ a b. a < b) n ns (All-from_recursion (λ k. n < k) ns above) rise

module _ {K T F I : Type 0} (g : Procedures K T F I) where
  -- nothing comes to be under a number that is taken
  none_in_run : (s : State K T F I) (n : ℕ) (steps : List (Passed K T F I)) (o : ℕ) → IsSound s → Passes g s n steps → IsTaken s o → made_in_run g s steps o ≡ None
  none_in_run s n [] o sound passes taken = refl
  none_in_run s n (x ∷ xs) o sound passes taken =
      ap (λ found. option_or found (made_in_run g x.after xs o)) (none_made g s x.after o sound x.entry.event x.outcome x.entry.answer passes.2 taken)
      ∙ none_in_run x.after (n + 1) xs o (step_sound g s x.after x.entry.event x.entry.answer sound passes.2) passes.3
      (stays_taken g s x.after o sound x.entry.event x.entry.answer passes.2 taken)

  -- from a state, with all the inner values that come to be behind it
  run_follows : (s : State K T F I) (n : ℕ) (steps : List (Passed K T F I)) → IsSound s → Rises s → Passes g s n steps
      → Follows g (joined (inside s) (made_in_run g s steps)) (inside (left_by s steps)) (calls_of_run s steps)
  run_follows s n [] sound rises passes = follows_still g (joined (inside s) (λ o. None)) (inside s) (sym (joined-none (inside s) (λ o. None) (λ o. refl)))
  run_follows s n (x ∷ xs) sound rises passes =
      let next = step_sound g s x.after x.entry.event x.entry.answer sound passes.2 in
      let one = step_follows g s x.after x.entry.event x.outcome x.entry.answer sound rises passes.1 passes.2 in
      let rest = run_follows x.after (n + 1) xs next (rises_step g s x.after x.entry.event x.entry.answer sound rises passes.2) passes.3 in
      let made = made_in_run g x.after xs in
      let later : All (λ m. made m.object ≡ None) one.0 =
      each_called (λ o. made o ≡ None) one.0
      (λ o some.
      none_in_run x.after (n + 1) xs o next passes.3
      (called_taken g s x.after o sound x.entry.event x.outcome x.entry.answer passes.2 (λ none. some (one.1 o ∙ none)))) in
      let begin = joined (inside s) (made_in_step g s x) in
      let twice : joined (inside s) (made_in_run g s (x ∷ xs)) ≡ joined begin made = joined-twice (inside s) (made_in_step g s x) made in
      let there : joined (inside x.after) made ≡ after_calls g (joined (inside s) (made_in_run g s (x ∷ xs))) one.0 =
      ap (λ v. joined v made) one.3 ∙ sym (calls_apart g made begin one.0 later) ∙ ap (λ v. after_calls g v one.0) (sym twice) in (
        one.0 ++ rest.0,
        (λ o. calls_on-append one.0 rest.0 o ∙ (λ i. one.1 o i ++ rest.1 o i)),
        finds-append g (joined (inside s) (made_in_run g s (x ∷ xs))) one.0 rest.0 (subst (λ v. FindValues g v one.0) (sym twice) (finds_apart g made begin one.0 later one.2))
            (subst (λ v. FindValues g v rest.0) there rest.2),
        rest.3 ∙ ap (λ v. after_calls g v rest.0) there ∙ sym (after_calls-append g (joined (inside s) (made_in_run g s (x ∷ xs))) one.0 rest.0),
      )

  -- no object of the set is there at first
  opens_empty : (first : T) (made : ℕ → Option I) → joined (inside (opening {K = K} {F = F} {I = I} first)) made ≡ record { set = first; inner = made }
  opens_empty first made = λ i. record { set = first; inner = λ o. option_or (plain_has_none (opening {K = K} {T = T} {F = F} {I = I} first).objects (refl, (refl, (refl, (refl, (refl, (refl, tt)))))) o i) (made o) }

  pub calls_made : (first : T) (steps : List (Passed K T F I)) → Passes g (opening first) 0 steps → (log : List Made) × AreMade K T F I g first steps log
  calls_made first steps passes =
      let follows = run_follows (opening first) 0 steps (opening_sound first) six_rise passes in
      let empty = opens_empty first (made_in_run g (opening first) steps) in
      let same : after_calls g (begins_with g first steps) follows.0 ≡ inside (left_by (opening first) steps) = ap (λ v. after_calls g v follows.0) (sym empty) ∙ sym follows.3 in (
        follows.0,
        record { told = follows.1; found = subst (λ v. FindValues g v follows.0) empty follows.2; set = ap (λ v. v.set) same; inner = λ o. ap (λ v. v.inner o) same },
      )
