-- An open in two phases: it begins, and where it meets a device or a key it is pending; then it is resumed with what the parse of
-- that object answers, or abandoned.
--
-- Source: Windows Internals, Object Manager (parse methods); that a parse is run between two steps, and the tickets, are this
-- profile.
use Rattle.std.specs.Prelude.{◌≡◌, ℕ, List, ◌⊎◌, Option, None, Some, Result, Ok, Err, MatchOption}
use Rattle.ob_base.specs.declared.status.Status.{Status}
use Rattle.ob_base.specs.declared.status.Status.TheVariants.{Success, InvalidParameter, NoMemory}
use Rattle.ob_model.specs.PendingOpens.{pending_of}
use Rattle.ob_model.specs.Refusals.{answers}
use Rattle.ob_model.specs.Step.{Step}
use Rattle.ob_model.specs.declared.command.Command.{Command}
use Rattle.ob_model.specs.declared.reply.Answer.TheVariants.{Done}
use Rattle.ob_model.specs.declared.reply.Event.TheVariants.{Start, Resume, Abandon}
use Rattle.ob_model.specs.declared.reply.ParseRun.{ParseRun}
use Rattle.ob_model.specs.declared.reply.ParseRun.TheVariants.{Unrun}
use Rattle.ob_model.specs.declared.reply.Reply.{Reply}
use Rattle.ob_runner.specs.Begun.{answer_in}
use Rattle.ob_runner.specs.Completes.{Made, HasRun, Falters}
use Rattle.ob_runner.specs.declared.begun.Begun.{Begun}
use Rattle.ob_host.specs.declared.kind.Kind.{Kind}
use Rattle.ob_c_state.specs.Calls.{HasBytes}
use Rattle.ob_c_state.specs.Machine.{Space, host}

-- A command of a process is begun: it has its reply, or is an open that is pending. Or it is out of memory: before its step,
-- then nothing has changed, or after it, and then the open is abandoned.
abbrev pub BeginsOpen : ℕ → Command Kind → Space → Result Begun Status → Space → Type 0
BeginsOpen p command s (Ok begun) t = Step host s (Start p command) (answer_in begun) t
BeginsOpen p command s (Err status) t =
    (status ≡ NoMemory) × (((steps : List (Made Kind)) × Falters host (Start p command) steps s t) ⊎ (HasBytes command × (t ≡ s)))

-- the same of a command that was to be made of bytes of the caller's
abbrev pub BeginsMade : {E : Type 0} → ℕ → Result (Command Kind) E → Space → Result Begun Status → Space → Type 0
BeginsMade p (Ok command) s begun t = BeginsOpen p command s begun t
BeginsMade p (Err e) s begun t = (begun ≡ Err NoMemory) × (t ≡ s)

-- A pending open is resumed with its parse, to its reply; or it is out of memory, and then it is abandoned.
abbrev pub Resumed : ℕ → Space → Result Reply Status → Space → Type 0
Resumed ticket s (Ok reply) t = (parse : ParseRun) × HasRun parse × Step host s (Resume ticket parse) (Done reply) t
Resumed ticket s (Err status) t = (status ≡ NoMemory) × ((parse : ParseRun) × Step host s (Abandon ticket parse) (answers Success) t)

-- the open of a ticket is resumed, if one is pending under it
abbrev pub EndsPending : ℕ → Space → Result Reply Status → Space → Type 0
EndsPending ticket s ended t = MatchOption (pending_of s ticket) ((ended ≡ Err InvalidParameter) × (t ≡ s)) (λ _. Resumed ticket s ended t)

-- the open of a ticket is abandoned, if one is pending under it
abbrev pub Cancels : ℕ → Space → Status → Space → Type 0
Cancels ticket s status t =
    MatchOption (pending_of s ticket) ((status ≡ InvalidParameter) × (t ≡ s)) (λ _. (status ≡ Success) × Step host s (Abandon ticket Unrun) (answers Success) t)

-- the open of a ticket is resumed in a namespace that may be closed, and such a report is made of how it ended
abbrev pub EndsOpen : ℕ → (old new : Option Space) → (Result Reply Status → Type 0) → Type 0
EndsOpen ticket None new reports = (new ≡ None) × reports (Err InvalidParameter)
EndsOpen ticket (Some s) new reports = (ended : Result Reply Status) × (t : Space) × (new ≡ Some t) × EndsPending ticket s ended t × reports ended

-- the open of a ticket is abandoned in a namespace that may be closed, with such a report
abbrev pub CancelsOpen : ℕ → (old new : Option Space) → (Status → Type 0) → Type 0
CancelsOpen ticket None new reports = (new ≡ None) × reports InvalidParameter
CancelsOpen ticket (Some s) new reports = (status : Status) × (t : Space) × (new ≡ Some t) × Cancels ticket s status t × reports status
