-- What holds between steps holds behind a step, and where none was made.
use Rattle.std.proofs.Common.{◌≡◌, sym, subst}
use Rattle.std.specs.Prelude.{Result, IfOk, OnErr}
use Rattle.ob_model.specs.declared.reply.Answer.{Answer}
use Rattle.ob_model.specs.declared.reply.Event.{Event}
use Rattle.ob_model.specs.Procedures.{Procedures}
use Rattle.ob_model.specs.Settle.{IsSettled}
use Rattle.ob_model.specs.State.{State}
use Rattle.ob_model.specs.Step.{Step}
use Rattle.ob_model.proofs.Steps.{step_sound}
use Rattle.ob_model.proofs.Staying.{step_settled}
use Rattle.ob_space.specs.Orderly.{IsOrderly, IsBetweenSteps}
use Rattle.ob_space.proofs.Results.{from_result}
use Rattle.ob_space.proofs.Looked.{same_sound}

pub stepped : {K T F I R E : Type 0} (g : Procedures K T F I) (idle : I → Type 0) (s t : State K T F I) (event : Event K) (result : Result R E) (answer : R → Answer)
    → IsBetweenSteps idle s → IsOrderly idle t → IfOk result (λ r. Step g s event (answer r) t) → OnErr result (t ≡ s) → IsBetweenSteps idle t
stepped g idle s t event result answer between orderly made unmade = record {
  orderly = orderly;
  sound = from_result result _ _ _ (λ r step. step_sound g s t event (answer r) between.sound step) (λ same. same_sound s t between.sound same) made unmade;
  settled = from_result result _ _ _ (λ r step. step_settled g s t event (answer r) between.settled step) (λ same. subst IsSettled (sym same) between.settled) made unmade;
}
