-- Histories that go on by a step, or stay as they were.
use Rattle.std.proofs.Common.{◌≡◌, ◌∙◌, ℕ, ◌+◌, Bool, true, false, List, [], ◌∷◌, ◌++◌, length, Result, Ok, Err, OnOk, OnErr, inl, inr, refl, ap, sym, subst, append_assoc}
use Rattle.std.specs.Prelude.{IfOk, IsTrue}
use Rattle.std.proofs.lemmas.Bool.{false≢true}
use Rattle.ob_base.specs.declared.fault.Fault.{Fault}
use Rattle.ob_base.specs.declared.fault.Fault.TheVariants.{Memory, Refused}
use Rattle.ob_base.specs.declared.status.Status.TheVariants.{InvalidParameter}
use Rattle.std.proofs.lemmas.List.{append-nil}
use Rattle.ob_model.specs.declared.reply.Answer.{Answer}
use Rattle.ob_model.specs.declared.reply.Event.{Event}
use Rattle.ob_model.specs.Procedures.{Procedures}
use Rattle.ob_model.specs.Run.{Entry, Run, RunFrom}
use Rattle.ob_segments.specs.Journal.{Journal, whole, with_entry, with_seal}
use Rattle.ob_entries.specs.Segments.{joined}
use Rattle.ob_locked.specs.Entered.{entered}
use Rattle.ob_locked.proofs.Keeps.{sealed_whole}
use Rattle.ob_locked.specs.Locked.{History}
use Rattle.ob_locked.specs.Passed.{Passed, IsKnown}
use Rattle.ob_locked.specs.Steps.{IsMade, sealed_then}
use Rattle.ob_shared.specs.Later.{IsLater}
use Rattle.ob_published.specs.declared.publication.Publication.{Publication}
use Rattle.ob_shared.specs.Publisher.{IsPublishedOf, IsUnpublished}

module _ {K T F I : Type 0} (g : Procedures K T F I) (h : History K T F I) (run : Run g h.first (whole h.journal) h.state) where
  -- nothing came
  pub later_itself : (h' : History K T F I) → h' ≡ h → IsLater g h h'
  later_itself h' same = subst (IsLater g h) (sym same) (record { run = run; first = refl; since = []; journal = sym (append-nil (whole h.journal)); onward = refl })

  -- a step was made
  pub later_made : (p p' : Passed K) (event : Event K) (answer : Answer) (h' : History K T F I) → IsMade g h p event answer h' p' → IsLater g h h'
  later_made p p' event answer h' made = record {
    run = run;
    first = made.first;
    since = entered (length (whole h.journal) + 1) p.seat event answer ∷ [];
    journal = ap whole made.journal ∙ sym (append_assoc (joined h.journal.sealed) h.journal.unsealed (entered (length (whole h.journal) + 1) p.seat event answer ∷ []));
    onward = (h'.state, refl, made.step, refl);
  }

  -- one was made, or none
  pub later_by : {A E : Type 0} (r : Result A E) (p p' : Passed K) (event : Event K) (answer : A → Answer) (h' : History K T F I) → IfOk r (λ x. IsMade g h p event (answer x) h' p') → OnErr r ((h' ≡ h) × (p' ≡ p)) → IsLater g h h'
  later_by (Ok x) p p' event answer h' made unmade = later_made p p' event (answer x) h' made
  later_by (Err e) p p' event answer h' made unmade = later_itself h' unmade.0

  -- the open segment was sealed, or wasn't
  pub later_sealed : {A E : Type 0} (r : Result A E) (h' : History K T F I) → OnOk r (h' ≡ sealed_then h) → OnErr r (h' ≡ h) → IsLater g h h'
  later_sealed (Ok x) h' sealed unsealed = subst (IsLater g h) (sym sealed) (record { run = run; first = refl; since = []; journal = sealed_whole h.journal ∙ sym (append-nil (whole h.journal)); onward = refl })
  later_sealed (Err e) h' sealed unsealed = later_itself h' unsealed

  -- an open that was abandoned after nothing came
  pub later_after : (h' later : History K T F I) → h' ≡ h → IsLater g h' later → IsLater g h later
  later_after h' later same after = subst (λ x. IsLater g x later) same after

  -- whether the pass is known, as it was tested
  module _ (j : Journal K) (same : j ≡ h.journal) (p : Passed K) (publishes : Type 0) (known : Bool) (told : (IsTrue known → IsKnown (whole j) p.receipts) × (IsKnown (whole j) p.receipts → IsTrue known)) where
    -- the pass is a stranger's
    pub stranger_unpublished : known ≡ false → IsUnpublished g p publishes (Refused InvalidParameter)
    stranger_unpublished off =
        (h, run, inl (refl, inl (λ is. false≢true (sym off ∙ told.1 (subst (λ x. IsKnown (whole x) p.receipts) (sym same) is)))))

    -- nothing is published here
    pub never_unpublished : (publishes → ⊥) → IsUnpublished g p publishes (Refused InvalidParameter)
    never_unpublished never = (h, run, inl (refl, inr never))

    pub known_now : known ≡ true → IsKnown (whole h.journal) p.receipts
    known_now on = subst (λ x. IsKnown (whole x) p.receipts) same (told.0 on)

    -- it ran out of memory
    pub memory_unpublished : publishes → known ≡ true → IsUnpublished g p publishes Memory
    memory_unpublished here on = (h, run, inr (refl, known_now on, here))

-- what is published is that of the history that was there
pub published_there : {K T F I A : Type 0} (g : Procedures K T F I) (h : History K T F I) (p : Passed K) (r : Result A Fault) (known : A → List Publication)
    → IfOk r (λ x. IsPublishedOf g p (known x) h) → IfOk r (λ x. (there : History K T F I) × IsPublishedOf g p (known x) there)
published_there g h p (Ok x) known is = (h, is)
published_there g h p (Err fault) known is = tt
