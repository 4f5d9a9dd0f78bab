-- The effects of a line of a script: the steps that it makes of the machine, the reply, and the variables after it.
--
-- Source: this profile.
use Rattle.std.specs.Prelude.{◌≡◌, ◌⊎◌, ℕ, List, [], Option, Some, None, codes}
use Rattle.ob_model.specs.declared.command.Command.{Command}
use Rattle.ob_model.specs.declared.reply.Answer.{Answer}
use Rattle.ob_model.specs.declared.reply.Answer.TheVariants as answer
use Rattle.ob_model.specs.declared.reply.Event.{Event}
use Rattle.ob_model.specs.declared.reply.Event.TheVariants.{Start}
use Rattle.ob_model.specs.declared.reply.Reply.{Reply}
use Rattle.ob_model.specs.Step.{Step}
use Rattle.ob_runner.specs.Completes.{Completes, Falters}
use Rattle.ob_standard.specs.Standard.{StandardKind, standard}
use Rattle.ob_lines.specs.declared.form.Form.{Form}
use Rattle.ob_lines.specs.declared.form.Form.TheVariants.{Nothing, Stat, Asks, Waits}
use Rattle.ob_lines.specs.declared.pending.PendingForm.{PendingForm}
use Rattle.ob_lines.specs.declared.request.Request.{Request}
use Rattle.ob_lines.specs.declared.request.Request.TheVariants.{CreateDirectory, CreateShadowed, CreateLink, CreateObject, OpenDirectory, OpenLink, OpenObject, Close, QueryLink, QueryName, QueryDirectory, Duplicate, MakeTemporary, MakePermanent, SetDeviceMap, NewProcess, ExitProcess}
use Rattle.ob_effects.specs.declared.outcome.LineOutcome.{LineOutcome}
use Rattle.ob_effects.specs.declared.outcome.LineOutcome.TheVariants as outcome
use Rattle.ob_effects.specs.declared.notice.Notice.{Notice}
use Rattle.ob_effects.specs.declared.notice.Notice.TheVariants as notice
use Rattle.ob_requests.specs.Variables.{Variables}
use Rattle.ob_requests.specs.Commands.{IsCommand, variables_after}
use Rattle.ob_requests.specs.Room.{Grows}
use Rattle.ob_standard_core.specs.Machine.{Space, counts_of}
use Rattle.ob_effects.specs.Waiting.{Steps, variable_of, is_waiting, told_instead, IsEvent, variables_answered, FindsNone}

-- A request of a process found no memory, with these variables and in the state s: before its first step, so that there is
-- none, for its texts or its variables; or while its command was run to its reply, by these steps, which lead to the state t.
abbrev pub WantsMemory : Request (List ℕ) → ℕ → Variables → Steps → Space → Space → Type 0
WantsMemory request process variables steps s t =
    ((steps ≡ []) × (t ≡ s) × Grows request) ⊎ ((c : Command StandardKind) × IsCommand request variables process c × Falters standard (Start process c) steps s t)

-- a request of a process was asked with these variables, and its command run to this reply by steps of the machine
abbrev pub IsAsked : Request (List ℕ) → ℕ → Variables → Space → Reply → Space → Type 0
IsAsked request process variables s reply s' =
    (c : Command StandardKind) × (steps : Steps) × IsCommand request variables process c × Completes standard (Start process c) steps s reply s'

-- so it was, and the reply left these variables
abbrev pub IsAnswered : Request (List ℕ) → ℕ → Variables → Space → Reply → Variables → Space → Type 0
IsAnswered request process variables s reply variables' s' = IsAsked request process variables s reply s' × (variables' ≡ variables_after request process reply variables)

-- or it found no memory
abbrev pub IsUnanswered : Request (List ℕ) → ℕ → Variables → Space → Space → Type 0
IsUnanswered request process variables s t = (steps : Steps) × WantsMemory request process variables steps s t

-- the notice in place of a step
abbrev pub notice_text : Notice → List ℕ
notice_text notice.Busy = codes "BUSY"
notice_text notice.NoPending = codes "NO PENDING"

-- a line of an open that waits made a step of a process, which was answered so, and left these variables
abbrev pub IsCarried : PendingForm (List ℕ) → ℕ → Variables → Space → Answer → Variables → Space → Type 0
IsCarried pending process variables s a variables' s' =
    ((event : Event StandardKind) × IsEvent pending variables process event × Step standard s event a s')
    × (variables' ≡ variables_answered variables process (variable_of pending) a)

-- or it found no memory
abbrev pub IsStopped : PendingForm (List ℕ) → ℕ → Variables → Space → Variables → Space → Type 0
IsStopped pending process variables s variables' s' = (steps : Steps) × FindsNone pending variables process steps s s' variables'

-- there is no notice in place of a step of such a line
abbrev pub MakesStep : PendingForm (List ℕ) → ℕ → Variables → Type 0
MakesStep pending process variables = told_instead pending (is_waiting variables process (variable_of pending)) ≡ None

-- what became of a request of a process, and what it left: its reply, or that it found no memory
abbrev pub IsRequestDone : Request (List ℕ) → ℕ → Variables → Space → LineOutcome → Variables → Space → Type 0
IsRequestDone request process variables s outcome.Idle variables' s' = ⊥
IsRequestDone request process variables s (outcome.Counted counts) variables' s' = ⊥
IsRequestDone request process variables s (outcome.Replied reply) variables' s' = IsAnswered request process variables s reply variables' s'
IsRequestDone request process variables s outcome.Pending variables' s' = ⊥
IsRequestDone request process variables s (outcome.Told notice) variables' s' = ⊥
IsRequestDone request process variables s outcome.NoLine variables' s' = ⊥
IsRequestDone request process variables s outcome.NoMemory variables' s' = IsUnanswered request process variables s s' × (variables' ≡ variables)

-- what became of a line of an open that waits: its reply, or that it waits, or the notice in place of a step, or that
-- it found no memory
abbrev pub IsWaitDone : PendingForm (List ℕ) → ℕ → Variables → Space → LineOutcome → Variables → Space → Type 0
IsWaitDone pending process variables s outcome.Idle variables' s' = ⊥
IsWaitDone pending process variables s (outcome.Counted counts) variables' s' = ⊥
IsWaitDone pending process variables s (outcome.Replied reply) variables' s' =
    MakesStep pending process variables × IsCarried pending process variables s (answer.Done reply) variables' s'
IsWaitDone pending process variables s outcome.Pending variables' s' =
    MakesStep pending process variables × ((n : ℕ) × IsCarried pending process variables s (answer.Ticket n) variables' s')
IsWaitDone pending process variables s (outcome.Told notice) variables' s' =
    (told_instead pending (is_waiting variables process (variable_of pending)) ≡ Some (notice_text notice)) × (variables' ≡ variables) × (s' ≡ s)
IsWaitDone pending process variables s outcome.NoLine variables' s' = ⊥
IsWaitDone pending process variables s outcome.NoMemory variables' s' = MakesStep pending process variables × IsStopped pending process variables s variables' s'

-- what became of a line of this form, and what it left; none: a line that is no script line
abbrev pub IsDone : Option (Form (List ℕ)) → Variables → Space → LineOutcome → Variables → Space → Type 0
IsDone None variables s o variables' s' = (o ≡ outcome.NoLine) × (variables' ≡ variables) × (s' ≡ s)
IsDone (Some Nothing) variables s o variables' s' = (o ≡ outcome.Idle) × (variables' ≡ variables) × (s' ≡ s)
IsDone (Some Stat) variables s o variables' s' = (o ≡ outcome.Counted (counts_of s)) × (variables' ≡ variables) × (s' ≡ s)
IsDone (Some (Asks process request)) variables s o variables' s' = IsRequestDone request (variables.processes process) variables s o variables' s'
IsDone (Some (Waits process pending)) variables s o variables' s' = IsWaitDone pending (variables.processes process) variables s o variables' s'

-- a request takes no memory: a close, the end of a process, and what makes an object permanent or temporary
abbrev pub TakesNone : Request (List ℕ) → Type 0
TakesNone (CreateDirectory place attrs variable) = ⊥
TakesNone (CreateShadowed shadow place attrs variable) = ⊥
TakesNone (CreateLink place attrs target variable) = ⊥
TakesNone (CreateObject kind place attrs args variable) = ⊥
TakesNone (OpenDirectory name attrs variable) = ⊥
TakesNone (OpenLink name attrs variable) = ⊥
TakesNone (OpenObject want name attrs variable) = ⊥
TakesNone (Close handle) = Unit {0}
TakesNone (QueryLink handle) = ⊥
TakesNone (QueryName handle) = ⊥
TakesNone (QueryDirectory handle room mode) = ⊥
TakesNone (Duplicate handle to inherit variable) = ⊥
TakesNone (MakeTemporary handle) = Unit {0}
TakesNone (MakePermanent handle) = Unit {0}
TakesNone (SetDeviceMap handle) = ⊥
TakesNone (NewProcess inherit child) = ⊥
TakesNone ExitProcess = Unit {0}

-- nor does a line that asks for one, or for nothing, or for what is counted
abbrev pub IsLineWithoutMemory : Option (Form (List ℕ)) → Type 0
IsLineWithoutMemory None = Unit {0}
IsLineWithoutMemory (Some Nothing) = Unit {0}
IsLineWithoutMemory (Some Stat) = Unit {0}
IsLineWithoutMemory (Some (Asks process request)) = TakesNone request
IsLineWithoutMemory (Some (Waits process pending)) = ⊥

-- what became of a line isn't that it found no memory
abbrev pub FoundMemory : LineOutcome → Type 0
FoundMemory outcome.Idle = Unit {0}
FoundMemory (outcome.Counted counts) = Unit {0}
FoundMemory (outcome.Replied reply) = Unit {0}
FoundMemory outcome.Pending = Unit {0}
FoundMemory (outcome.Told notice) = Unit {0}
FoundMemory outcome.NoLine = Unit {0}
FoundMemory outcome.NoMemory = ⊥
