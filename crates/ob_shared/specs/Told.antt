-- The facts that a call reports which took the lock: the journal was a run then, and the call's effect on it.
--
-- Source: this profile.
use Rattle.std.specs.Prelude.{◌≡◌, ◌⊎◌, ℕ, List}
use Rattle.ob_base.specs.declared.fault.Fault.{Fault}
use Rattle.ob_base.specs.declared.status.Status.TheVariants.{Success}
use Rattle.ob_model.specs.declared.reply.Event.{Event}
use Rattle.ob_model.specs.declared.reply.Event.TheVariants.{Abandon}
use Rattle.ob_model.specs.Procedures.{Procedures}
use Rattle.ob_model.specs.Refusals.{answers}
use Rattle.ob_model.specs.Run.{Run}
use Rattle.ob_entries.specs.Segments.{Segment, AreSealed}
use Rattle.ob_segments.specs.Journal.{open_segment, whole}
use Rattle.ob_types.specs.Parse.{HasRun, ToRun, asked_of}
use Rattle.ob_opens.specs.Waiting.{IsAwaited, IsParseOf}
use Rattle.ob_locked.specs.declared.started.Pending.{Pending}
use Rattle.ob_locked.specs.declared.started.Pending.TheVariants as pending
use Rattle.ob_locked.specs.declared.started.Started.{Started}
use Rattle.ob_locked.specs.Answers.{answer_in, brought_in, run_in, IfWaits}
use Rattle.ob_locked.specs.Locked.{History}
use Rattle.ob_locked.specs.Passed.{Passed, IsKnown}
use Rattle.ob_locked.specs.Places.{places_for}
use Rattle.ob_agreement.specs.Agreement.{IsMismatch}
use Rattle.ob_agreement.specs.declared.compared.Mismatch.{Mismatch}
use Rattle.ob_locked.specs.Steps.{IsMade, IsNotAdmitted, IsNotResumed, IsNotSealed, MaySeal}

-- A step is the last one of a run: there is a run that has the pass's earlier last receipt at its number; the machine makes the step in
-- its state, with an entry that follows the journal and is the pass's last receipt; and if its open is pending, the returned parse is that
-- open's.
pub record IsTold {K T F I : Type 0} (g : Procedures K T F I) (p : Passed K) (event : Event K) (started : Started T K F I) (p' : Passed K) : Type 0 where
  pub before : History K T F I
  pub after : History K T F I
  pub run : Run g before.first (whole before.journal) before.state
  pub known : IsKnown (whole before.journal) p.receipts
  pub made : IsMade g before p event (answer_in started) after p'
  pub waits : IfWaits started (IsParseOf after.state)

module _ {K T F I : Type 0} (g : Procedures K T F I) where
  -- this is true of the journal and the state under the lock
  abbrev pub IsOfRun : History K T F I → Type 0
  IsOfRun h = Run g h.first (whole h.journal) h.state

  -- a start makes no step, for a reason that a run gives
  abbrev pub IsNotStarted : Passed K → Fault → Type 0
  IsNotStarted p fault = (h : History K T F I) × IsOfRun h × IsNotAdmitted h.journal (places_for h.state.pending) p.receipts fault

  -- nor does a resume
  abbrev pub IsNotBrought : Passed K → ToRun F → Fault → Type 0
  IsNotBrought p asked fault = (h : History K T F I) × IsOfRun h × IsNotResumed g h p asked fault

  -- An open is abandoned after this history: it waited for the parse, and the step is made; or the parse is a stranger's, and the pass is as
  -- it was.
  abbrev pub IsGivenUpAfter : History K T F I → Passed K → Pending T K F I → Passed K → Type 0
  IsGivenUpAfter h p pending p' =
      (IsAwaited g h.state (asked_of (brought_in pending)) × (h' : History K T F I) × IsMade g h p (Abandon (brought_in pending).ticket (run_in pending)) (answers Success) h' p')
      ⊎ ((IsAwaited g h.state (asked_of (brought_in pending)) → ⊥) × (p' ≡ p))

  -- an open is abandoned after a run
  abbrev pub IsGivenUp : Passed K → Pending T K F I → Passed K → Type 0
  IsGivenUp p pending p' = (h : History K T F I) × IsOfRun h × IsGivenUpAfter h p pending p'

  -- A resume makes no step after this history, for this reason, and its open is abandoned under the same lock.
  abbrev pub IsCutOffAfter : History K T F I → Passed K → HasRun F I → Fault → Passed K → Type 0
  IsCutOffAfter h p parsed fault p' = IsNotResumed g h p (asked_of parsed) fault × IsGivenUpAfter h p (pending.Run parsed) p'

  -- this is so after a run
  abbrev pub IsCutOff : Passed K → HasRun F I → Fault → Passed K → Type 0
  IsCutOff p parsed fault p' = (h : History K T F I) × IsOfRun h × IsCutOffAfter h p parsed fault p'

  -- the passes differ from the journal of a run, there
  abbrev pub IsMismatchOfRun : List (Passed K) → ℕ → Mismatch → Type 0
  IsMismatchOfRun passes seats m = (h : History K T F I) × IsOfRun h × IsMismatch (whole h.journal) passes seats m

  -- a segment was sealed: it was the open one of the journal of a run, in which it might be sealed
  abbrev pub IsSealed : Segment K → Type 0
  IsSealed segment =
      (h : History K T F I) × IsOfRun h × AreSealed 1 1 h.journal.sealed × MaySeal h.journal × (segment ≡ open_segment h.journal)

  -- none was, for a reason that a run gives
  abbrev pub IsUnsealed : Fault → Type 0
  IsUnsealed fault = (h : History K T F I) × IsOfRun h × IsNotSealed h.journal fault
