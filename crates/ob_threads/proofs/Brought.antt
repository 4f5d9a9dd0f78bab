-- What a seat learns of a step of the shared namespace.
use Rattle.std.proofs.Common.{◌≡◌, ◌⊎◌, inl, inr, ℕ, Option, None, Some, ap, refl}
use Rattle.ob_base.specs.declared.status.Status.TheVariants.{Success}
use Rattle.ob_model.specs.declared.reply.Answer.{Answer}
use Rattle.ob_model.specs.declared.reply.Event.{Event}
use Rattle.ob_model.specs.declared.reply.Event.TheVariants.{Abandon}
use Rattle.ob_model.specs.declared.reply.ParseRun.{ParseRun}
use Rattle.ob_model.specs.Procedures.{ParseOutcome}
use Rattle.ob_model.specs.Refusals.{answers}
use Rattle.ob_runner.specs.Completes.{HasRun}
use Rattle.ob_types.specs.Pending.{run_of_end}
use Rattle.ob_standard.specs.Standard.{StandardKind, Standard, StandardFace, StandardInner, standard}
use Rattle.ob_locked.specs.declared.started.Pending.{Pending}
use Rattle.ob_locked.specs.declared.started.Started.{Started}
use Rattle.ob_locked.specs.Answers.{answer_in, brought_in, run_in}
use Rattle.ob_locked.specs.Passed.{Passed}
use Rattle.ob_shared.specs.Told.{IsGivenUp, IsTold}
use Rattle.ob_seats.specs.Received.{IsReceived}

-- a parse that was brought was run
pub has_run : {F I : Type 0} (outcome : Option (ParseOutcome F I)) → HasRun (run_of_end outcome)
has_run None = tt
has_run (Some end) = tt

-- the receipt of a step that was reported
pub received : (p p' : Passed StandardKind) (event event' : Event StandardKind) (answer : Answer) (started : Started Standard StandardKind StandardFace StandardInner)
    → IsTold standard p event started p' → event ≡ event' → answer_in started ≡ answer → IsReceived p.receipts event' answer p'.receipts
received p p' event event' answer started told same is = (_, told.made.receipts, same, is)

-- an open was given up, or it was a stranger's
pub given_up : (p p' : Passed StandardKind) (pending : Pending Standard StandardKind StandardFace StandardInner) (n : ℕ) → IsGivenUp standard p pending p' → (brought_in pending).ticket ≡ n
    → (p'.receipts ≡ p.receipts) ⊎ ((parse : ParseRun) × IsReceived p.receipts (Abandon n parse) (answers Success) p'.receipts)
given_up p p' pending n told same = elim told.2 as (λ x. (p'.receipts ≡ p.receipts) ⊎ ((parse : ParseRun) × IsReceived p.receipts (Abandon n parse) (answers Success) p'.receipts)) [
  | inl made ↦ inr (run_in pending, (_, made.2.receipts, ap (λ k. Abandon k (run_in pending)) same, refl))
  | inr stays ↦ inl (ap (λ (x : Passed StandardKind). x.receipts) stays.1)
]
