-- Every list of commands has a run, and a run is made of steps.
use Rattle.std.proofs.Common.{◌≡◌, ℕ, ◌+◌, List, [], ◌∷◌, Option, None, map, refl, sym, ap, subst}
use Rattle.ob_model.specs.declared.command.Command.{Command}
use Rattle.ob_model.specs.declared.reply.Answer.{Answer}
use Rattle.ob_model.specs.declared.reply.Event.{Event}
use Rattle.ob_model.specs.declared.reply.Event.TheVariants.{Start, Resume, Abandon}
use Rattle.ob_model.specs.State.{State}
use Rattle.ob_model.specs.Opening.{opening}
use Rattle.ob_model.specs.Parses.{IsBrought}
use Rattle.ob_model.specs.Procedures.{Procedures, ParseOutcome}
use Rattle.ob_model.specs.Step.{Step}
use Rattle.ob_model.specs.Run.{Entry, RunFrom, Run}
use Rattle.ob_model.specs.Calls.{Passed, Passes, left_by}
use Rattle.ob_model.specs.Sound.{IsSound}
use Rattle.ob_model.proofs.Soundness.{opening_sound}
use Rattle.ob_model.proofs.Steps.{step_sound}
use Rattle.ob_model.proofs.Total.{start_total}

module _ {K T F I : Type 0} (g : Procedures K T F I) where
  run_from_total : (s : State K T F I) (n : ℕ) (asked : List (ℕ × ℕ × Command K)) → IsSound s
      → (entries : List (Entry K)) × (t : State K T F I) × (map (λ e. (e.seat, e.event)) entries ≡ map {B = ℕ × Event K} (λ x. (x.0, Start x.1 x.2)) asked) × RunFrom g s n entries t
  run_from_total s n [] sound = ([], s, refl, refl)
  run_from_total s n (x ∷ xs) sound =
      let step = start_total g s x.1 x.2 sound in
      let rest = run_from_total step.1 (n + 1) xs (step_sound g s step.1 (Start x.1 x.2) step.0 sound step.2) in
      let entry : Entry K = record { number = n + 1; seat = x.0; event = Start x.1 x.2; answer = step.0 } in
      (entry ∷ rest.0, rest.1, ap (λ (ys : List (ℕ × Event K)). (x.0, Start x.1 x.2) ∷ ys) rest.2, (step.1, refl, step.2, rest.3))

  pub run_total : (first : T) (asked : List (ℕ × ℕ × Command K))
      → (entries : List (Entry K)) × (t : State K T F I) × (map (λ e. (e.seat, e.event)) entries ≡ map {B = ℕ × Event K} (λ x. (x.0, Start x.1 x.2)) asked) × Run g first entries t
  run_total first asked = run_from_total (opening first) 0 asked (opening_sound first)

  -- a run from a sound state leads to a sound one
  run_from_sound : (s : State K T F I) (n : ℕ) (entries : List (Entry K)) (t : State K T F I) → IsSound s → RunFrom g s n entries t → IsSound t
  run_from_sound s n [] t sound run = subst IsSound (sym run) sound
  run_from_sound s n (e ∷ es) t sound run = run_from_sound run.0 (n + 1) es t (step_sound g s run.0 e.event e.answer sound run.2) run.3

  pub run_sound : (first : T) (entries : List (Entry K)) (t : State K T F I) → Run g first entries t → IsSound t
  run_sound first entries t run = run_from_sound (opening first) 0 entries t (opening_sound first) run

  -- what is brought with the event of a step
  brought_with : (s t : State K T F I) (event : Event K) (answer : Answer) → Step g s event answer t → (outcome : Option (ParseOutcome F I)) × IsBrought g s event outcome
  brought_with s t (Start p command) answer h = (None, refl)
  brought_with s t (Resume ticket parse) answer h = (h.0, h.1)
  brought_with s t (Abandon ticket parse) answer h = (h.0, h.1)

  -- a run, step by step
  pub run_passed : (s : State K T F I) (n : ℕ) (entries : List (Entry K)) (t : State K T F I) → RunFrom g s n entries t
      → (steps : List (Passed K T F I)) × (map (λ x. x.entry) steps ≡ entries) × Passes g s n steps × (left_by s steps ≡ t)
  run_passed s n [] t run = ([], refl, tt, sym run)
  run_passed s n (e ∷ es) t run =
      let rest = run_passed run.0 (n + 1) es t run.3 in
      let brought = brought_with s run.0 e.event e.answer run.2 in
      let first : Passed K T F I = record { entry = e; outcome = brought.0; after = run.0 } in
      (first ∷ rest.0, ap (λ (xs : List (Entry K)). e ∷ xs) rest.1, (run.1, brought.1, run.2, rest.2), rest.3)
