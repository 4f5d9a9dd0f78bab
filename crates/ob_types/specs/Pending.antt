-- The parse that is brought when a pending open ends is the one that the machine takes.
--
-- Source: this profile.
use Rattle.std.specs.Prelude.{◌≡◌, Option, None, Some}
use Rattle.ob_model.specs.declared.reply.ParseRun.{ParseRun}
use Rattle.ob_model.specs.declared.reply.ParseRun.TheVariants as run
use Rattle.ob_model.specs.declared.state.PendingOpen.{PendingOpen}
use Rattle.ob_model.specs.State.{State}
use Rattle.ob_model.specs.PendingOpens.{face_of}
use Rattle.ob_model.specs.Procedures.{Procedures, ParseOutcome}
use Rattle.ob_model.specs.Parses.{IsParsed}
use Rattle.ob_types.specs.Parse.{HasRun}
use Rattle.ob_types.specs.declared.pending.Pending.{Pending}
use Rattle.ob_types.specs.declared.pending.Pending.TheVariants.{Unrun, Run}

-- what became of a parse that was run
abbrev pub run_of_end : {F I : Type 0} → Option (ParseOutcome F I) → ParseRun
run_of_end None = run.NoMemory
run_of_end (Some end) = run.Ran

module _ {K T F I : Type 0} where
  -- what became of a parse that is brought
  abbrev pub run_of : Pending T K F I → ParseRun
  run_of (Unrun parse) = run.Unrun
  run_of (Run parse) = run_of_end parse.outcome

  -- a parse that is brought, as one that was run: one that was not found no memory
  abbrev pub brought : Pending T K F I → HasRun F I
  brought (Unrun parse) = record { ticket = parse.ticket; face = parse.face; rest = parse.rest; outcome = None }
  brought (Run parse) = parse

module _ {K T F I : Type 0} (g : Procedures K T F I) where
  -- Where the object that a pending open pins has this face, what became of a parse and what it ended with are what
  -- the machine takes for the parse of that open.
  abbrev pub IsTaken : PendingOpen K → F → ParseRun → Option (ParseOutcome F I) → Type 0
  IsTaken x pinned parse outcome = (s : State K T F I) → face_of s x.object ≡ Some pinned → IsParsed g s x parse outcome
