-- A request under the lock, as an event; and why no step is made for it.
--
-- Source: this profile.
use Rattle.std.specs.Prelude.{◌≡◌, length, Option, None, Some}
use Rattle.ob_base.specs.declared.fault.Fault.{Fault}
use Rattle.ob_base.specs.declared.fault.Fault.TheVariants.{Refused}
use Rattle.ob_base.specs.declared.status.Status.TheVariants.{InvalidParameter}
use Rattle.ob_model.specs.declared.reply.Event.{Event}
use Rattle.ob_model.specs.declared.reply.Event.TheVariants as event
use Rattle.ob_model.specs.Procedures.{Procedures}
use Rattle.ob_segments.specs.Journal.{whole}
use Rattle.ob_types.specs.Pending.{run_of_end}
use Rattle.ob_types.specs.Parse.{HasRun, asked_of}
use Rattle.ob_opens.specs.Waiting.{IsAwaited}
use Rattle.ob_locked.specs.declared.steps.Asked.{Asked}
use Rattle.ob_locked.specs.declared.steps.Asked.TheVariants.{Start, Resume, Abandon}
use Rattle.ob_locked.specs.Answers.{brought_in, run_in}
use Rattle.ob_locked.specs.Locked.{History}
use Rattle.ob_locked.specs.Passed.{Passed, IsKnown}
use Rattle.ob_locked.specs.Places.{places_for}
use Rattle.ob_locked.specs.Steps.{IsFull, IsNotAdmitted, IsNotResumed}

module _ {K T F I : Type 0} where
  -- the event
  abbrev pub event_of : Asked T K F I → Event K
  event_of (Start process command) = event.Start process command.now
  event_of (Resume parsed) = event.Resume parsed.ticket (run_of_end parsed.outcome)
  event_of (Abandon pending) = event.Abandon (brought_in pending).ticket (run_in pending)

  -- the parse that is handed back where no step is made: that of a resume
  abbrev pub handed_back : Asked T K F I → Option (HasRun F I)
  handed_back (Start process command) = None
  handed_back (Resume parsed) = Some parsed
  handed_back (Abandon pending) = None

  -- The request may be made into a step: the pass is no stranger's, of which an abandon makes no test; a start finds
  -- its places; and an open waits for the parse that is brought.
  abbrev pub IsAdmitted : Procedures K T F I → History K T F I → Passed K → Asked T K F I → Type 0
  IsAdmitted g h p (Start process command) = IsKnown (whole h.journal) p.receipts × (IsFull (length h.journal.unsealed) (places_for h.state.pending) → ⊥)
  IsAdmitted g h p (Resume parsed) = IsKnown (whole h.journal) p.receipts × IsAwaited g h.state (asked_of parsed)
  IsAdmitted g h p (Abandon pending) = IsAwaited g h.state (asked_of (brought_in pending))

  -- Why no step is made: of a start and a resume as is said there; an abandon is a stranger's.
  abbrev pub IsUnmade : Procedures K T F I → History K T F I → Passed K → Asked T K F I → Fault → Type 0
  IsUnmade g h p (Start process command) fault = IsNotAdmitted h.journal (places_for h.state.pending) p.receipts fault
  IsUnmade g h p (Resume parsed) fault = IsNotResumed g h p (asked_of parsed) fault
  IsUnmade g h p (Abandon pending) fault = (fault ≡ Refused InvalidParameter) × (IsAwaited g h.state (asked_of (brought_in pending)) → ⊥)
