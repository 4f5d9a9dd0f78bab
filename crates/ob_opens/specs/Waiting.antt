-- How the start of a command ends, which parses are brought back to the opens that wait for them, and which are
-- not taken.
--
-- Source: Windows Internals, Object Manager (parse methods); that a parse is run between two steps, and who it is
-- taken for, is this profile.
use Rattle.std.specs.Prelude.{◌≡◌, Bool, true, false, Option, None, Some, MatchOption}
use Rattle.ob_base.specs.declared.fault.Fault.{Fault}
use Rattle.ob_base.specs.declared.fault.Fault.TheVariants.{Memory, Refused}
use Rattle.ob_base.specs.declared.status.Status.TheVariants.{InvalidParameter}
use Rattle.ob_model.specs.declared.reply.Answer.{Answer}
use Rattle.ob_model.specs.declared.reply.Answer.TheVariants.{Done, Ticket}
use Rattle.ob_model.specs.State.{State}
use Rattle.ob_model.specs.PendingOpens.{face_of, pending_of}
use Rattle.ob_model.specs.Procedures.{Procedures, ParseOutcome, EndsItself, EndsMade, EndsReparse, EndsRefused}
use Rattle.ob_types.specs.Parse.{ToRun, IsFor}
use Rattle.ob_opens.specs.declared.started.Started.{Started}
use Rattle.ob_opens.specs.declared.started.Started.TheVariants as started

module _ {K T F I : Type 0} where
  -- how a start ends, as the machine's answer
  abbrev pub answer_of : Started T K F I → Answer
  answer_of (started.Done reply) = Done reply
  answer_of (started.Parsing parsing) = Ticket parsing.ticket

  -- a fact of the parse that is to be run, where there is one
  abbrev pub IfParsing : Started T K F I → (ToRun F → Type 0) → Type 0
  IfParsing (started.Done reply) fact = Unit {0}
  IfParsing (started.Parsing parsing) fact = fact parsing

  -- a parse is the one that a pending open waits for: of the face of the object that the open pins, over its rest
  abbrev pub IsParseOf : State K T F I → ToRun F → Type 0
  IsParseOf s parsing = MatchOption (pending_of s parsing.ticket) ⊥ (λ x. (x.rest ≡ parsing.rest) × (face_of s x.object ≡ Some parsing.face))

  -- a parse that is brought is one that an open of the state waits for; else it is a stranger's
  abbrev pub IsAwaited : Procedures K T F I → State K T F I → ToRun F → Type 0
  IsAwaited g s asked = MatchOption (pending_of s asked.ticket) ⊥ (λ x. MatchOption (face_of s x.object) ⊥ (λ pinned. IsFor g asked x pinned))

-- the inner value of the instance that a parse made, where it made one
abbrev pub made_in : {F I : Type 0} → Option (ParseOutcome F I) → Option I
made_in None = None
made_in (Some EndsItself) = None
made_in (Some (EndsMade face inner)) = Some inner
made_in (Some (EndsReparse text)) = None
made_in (Some (EndsRefused k)) = None

-- Why a parse that is brought isn't taken: no open waits for it, so it is a stranger's; or memory ran out.
abbrev pub IsNotTaken : {K T F I : Type 0} → Procedures K T F I → State K T F I → ToRun F → Fault → Type 0
IsNotTaken g s asked Memory = IsAwaited g s asked
IsNotTaken g s asked (Refused status) = (status ≡ InvalidParameter) × (IsAwaited g s asked → ⊥)

-- a parse opens nothing: it was refused, or found no memory
abbrev pub opens_nothing : {F I : Type 0} → Option (ParseOutcome F I) → Bool
opens_nothing None = true
opens_nothing (Some EndsItself) = false
opens_nothing (Some (EndsMade face inner)) = false
opens_nothing (Some (EndsReparse text)) = false
opens_nothing (Some (EndsRefused k)) = true

-- an answer is a reply, and no ticket
abbrev pub is_reply : Answer → Bool
is_reply (Done reply) = true
is_reply (Ticket n) = false
