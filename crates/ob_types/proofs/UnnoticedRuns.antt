-- A run, made from the changed first value.
use Rattle.std.proofs.Common.{ℕ, ◌+◌, List, [], ◌∷◌, ap}
use Rattle.ob_model.specs.declared.reply.Answer.{Answer}
use Rattle.ob_model.specs.declared.reply.Event.{Event}
use Rattle.ob_model.specs.State.{State}
use Rattle.ob_model.specs.Procedures.{Procedures}
use Rattle.ob_model.specs.Opening.{opening}
use Rattle.ob_model.specs.Step.{Step}
use Rattle.ob_model.specs.Run.{Entry, RunFrom, Run}
use Rattle.ob_types.specs.Unnoticed.{IsUnnoticed, with_change}
use Rattle.ob_types.proofs.UnnoticedSteps.{step-changed}

module _ {K T F I : Type 0} (g : Procedures K T F I) (change : T → T) where
  run_from-changed : IsUnnoticed g change → (s t : State K T F I) (n : ℕ) (entries : List (Entry K)) → RunFrom g s n entries t → RunFrom g (with_change change s) n entries (with_change change t)
  run_from-changed unnoticed s t n [] h = ap (with_change change) h
  run_from-changed unnoticed s t n (e ∷ es) (u, number, step, rest) =
      (with_change change u, number, step-changed g change unnoticed s u e.event e.answer step, run_from-changed unnoticed u t (n + 1) es rest)

  pub steps_stay : (s t : State K T F I) (e : Event K) (a : Answer) → IsUnnoticed g change → Step g s e a t → Step g (with_change change s) e a (with_change change t)
  steps_stay s t e a unnoticed h = step-changed g change unnoticed s t e a h

  pub runs_stay : (first : T) (entries : List (Entry K)) (s : State K T F I) → IsUnnoticed g change → Run g first entries s → Run g (change first) entries (with_change change s)
  runs_stay first entries s unnoticed h = run_from-changed unnoticed (opening first) s 0 entries h
