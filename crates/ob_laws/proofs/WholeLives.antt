-- The calls on an object in a whole run, and exclusive objects after each of its steps.
use Rattle.std.proofs.Common.{◌≡◌, ◌∙◌, ℕ, ◌+◌, Bool, true, false, cond, List, [], ◌∷◌, ◌++◌, append-nil, append_assoc, length, length-append, inl, refl, sym, subst, arith}
use Rattle.ob_model.specs.State.{State, handle_count_in}
use Rattle.ob_model.specs.Opening.{opening}
use Rattle.ob_model.specs.Procedures.{Procedures}
use Rattle.ob_model.specs.Exclusive.{AreAlone}
use Rattle.ob_model.specs.Sound.{IsSound}
use Rattle.ob_model.specs.Step.{Step}
use Rattle.ob_model.specs.Run.{Entry, RunFrom}
use Rattle.ob_model.specs.Calls.{Call, Passed, Passes, calls_of_run, is_of_set}
use Rattle.ob_model.specs.Lifetimes.{maker_of, calls_in, StepKeepsCount, AtEachStep}
use Rattle.ob_model.proofs.Soundness.{opening_sound}
use Rattle.ob_model.proofs.Steps.{step_sound}
use Rattle.ob_model.proofs.Alone.{run_alone}
use Rattle.ob_laws.specs.WholeRuns.{IsLifetime}
use Rattle.ob_laws.proofs.CallCounts.{Tells, closes_are_counted, delete_is_last}
use Rattle.ob_laws.proofs.LifeOf.{set_count, StepTells, Life, life_goes_on, step_keeps_count}
use Rattle.ob_laws.proofs.StepCalls.{step_tells}

either_none : (b : Bool) → ◌≡◌ {A = ℕ} 0 (cond b 0 0)
either_none true = refl
either_none false = refl

module _ {K T F I : Type 0} (g : Procedures K T F I) where
  passed_tells : (s : State K T F I) (x : Passed K T F I) (o : ℕ) → IsSound s → Step g s x.entry.event x.entry.answer x.after
      → StepTells s x.after o (handle_count_in x.after (maker_of s x.entry.event) o) (calls_in s x o)
  passed_tells s x o sound step = step_tells g s x.after x.entry.event x.outcome x.entry.answer o sound step

  passed_sound : (s : State K T F I) (x : Passed K T F I) → IsSound s → Step g s x.entry.event x.entry.answer x.after → IsSound x.after
  passed_sound s x sound step = step_sound g s x.after x.entry.event x.entry.answer sound step

  -- the calls of a run, behind those before it
  told_through : (s : State K T F I) (n : ℕ) (steps : List (Passed K T F I)) (o : ℕ) (calls : List Call)
      → IsSound s → Passes g s n steps → Life s o calls → (m : ℕ) × Tells 0 (calls ++ calls_of_run s steps o) m
  told_through s n [] o calls sound passes life = (set_count s o, subst (λ cs. Tells 0 cs (set_count s o)) (sym (append-nil calls)) life.told)
  told_through s n (x ∷ xs) o calls sound passes life =
      let next = passed_sound s x sound passes.2 in
      let lives = life_goes_on s x.after o (handle_count_in x.after (maker_of s x.entry.event) o) calls (calls_in s x o) life (passed_tells s x o sound passes.2) in
      let rest = told_through x.after (n + 1) xs o (calls ++ calls_in s x o) next passes.3 lives in
      (rest.0, subst (λ cs. Tells 0 cs rest.0) (append_assoc calls (calls_in s x o) (calls_of_run x.after xs o)) rest.1)

  kept_through : (s : State K T F I) (n : ℕ) (steps : List (Passed K T F I)) (o : ℕ) → IsSound s → Passes g s n steps → AtEachStep (StepKeepsCount o) s steps
  kept_through s n [] o sound passes = tt
  kept_through s n (x ∷ xs) o sound passes =
      let next = passed_sound s x sound passes.2 in
      (step_keeps_count s x o next (passed_tells s x o sound passes.2), kept_through x.after (n + 1) xs o next passes.3)

  -- a run and one step more
  run_and_step : (s : State K T F I) (n : ℕ) (es : List (Entry K)) (t u : State K T F I) (e : Entry K)
      → RunFrom g s n es t → e.number ≡ n + length es + 1 → Step g t e.event e.answer u → RunFrom g s n (es ++ e ∷ []) u
  run_and_step s n [] t u e run number step =
      (u, number ∙ omega arith, subst (λ v. Step g v e.event e.answer u) run step, refl)
  run_and_step s n (d ∷ es) t u e run number step =
      (run.0, run.1, run.2, run_and_step run.0 (n + 1) es t u e run.3 (number ∙ omega arith) step)

  alone_through : (first : T) (es : List (Entry K)) (s : State K T F I) (steps : List (Passed K T F I))
      → RunFrom g (opening first) 0 es s → Passes g s (0 + length es) steps → AtEachStep (λ u x. AreAlone x.after) s steps
  alone_through first es s [] run passes = tt
  alone_through first es s (x ∷ xs) run passes =
      let longer = run_and_step (opening first) 0 es s x.after x.entry run passes.0 passes.2 in (
        run_alone g first (es ++ x.entry ∷ []) x.after longer,
        alone_through first (es ++ x.entry ∷ []) x.after xs longer (subst (λ n. Passes g x.after n xs) (omega (arith, length-append es (x.entry ∷ []))) passes.3),
      )

  pub whole_life : (first : T) (steps : List (Passed K T F I)) (o : ℕ) → Passes g (opening first) 0 steps → IsLifetime K T F I first steps o
  whole_life first steps o passes =
      let s : State K T F I = opening first in
      let told = told_through s 0 steps o [] (opening_sound first) passes (record { told = either_none (is_of_set s o); ended = inl refl }) in
      record {
        counted = closes_are_counted told.0 (calls_of_run s steps o) told.1;
        deleted = delete_is_last told.0 (calls_of_run s steps o) told.1;
        kept = kept_through s 0 steps o (opening_sound first) passes;
        alone = alone_through first [] s steps refl passes;
      }
