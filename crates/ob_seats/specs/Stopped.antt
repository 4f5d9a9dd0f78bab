-- Stopped: what a seat that stops before the end of its lines has played, and why it stops. Variables are its variables.
--
-- Source: this profile.
use Rattle.std.specs.Prelude.{◌≡◌, ◌⊎◌, ℕ, ◌+◌, ◌<◌, Bool, List, [], ◌∷◌, ◌++◌, length}
use Rattle.ob_base.specs.declared.fault.Fault.{Fault}
use Rattle.ob_base.specs.declared.fault.Fault.TheVariants as fault
use Rattle.ob_base.specs.declared.status.Status.TheVariants.{Success}
use Rattle.ob_model.specs.declared.command.Command.{Command}
use Rattle.ob_model.specs.declared.reply.Answer.TheVariants.{Ticket}
use Rattle.ob_model.specs.declared.reply.Event.{Event}
use Rattle.ob_model.specs.declared.reply.Event.TheVariants.{Start, Resume, Abandon}
use Rattle.ob_model.specs.declared.reply.ParseRun.{ParseRun}
use Rattle.ob_model.specs.declared.reply.Reply.{Reply}
use Rattle.ob_model.specs.Refusals.{answers}
use Rattle.ob_model.specs.Run.{Entry}
use Rattle.ob_runner.specs.Completes.{HasRun, step_of}
use Rattle.ob_standard.specs.Standard.{StandardKind}
use Rattle.ob_lines.specs.declared.form.Form.{Form}
use Rattle.ob_lines.specs.declared.form.Form.TheVariants.{Nothing, Stat, Asks, Waits}
use Rattle.ob_lines.specs.declared.change.Change.TheVariants.{SetsProcess}
use Rattle.ob_lines.specs.declared.pending.PendingForm.{PendingForm}
use Rattle.ob_lines.specs.declared.pending.PendingForm.TheVariants.{Begin, End, Drop}
use Rattle.ob_lines.specs.declared.request.Request.{Request}
use Rattle.ob_lines.specs.Changes.{change_of}
use Rattle.ob_worker_lines.specs.declared.form.SeatForm.{SeatForm}
use Rattle.ob_worker_lines.specs.declared.form.SeatForm.TheVariants.{Seal, Line}
use Rattle.ob_worker_lines.specs.Cuts.{Lines}
use Rattle.ob_worker_lines.specs.Forms.{IsLineOfSeat}
use Rattle.ob_requests.specs.Commands.{IsCommand, IsOpenObject, given_process}
use Rattle.ob_requests.specs.Variables.{Variables, with_process, with_ticket}
use Rattle.ob_effects.specs.Effects.{MakesStep}
use Rattle.ob_effects.specs.Waiting.{AreTickets, given_up, variables_answered}
use Rattle.ob_seats.specs.declared.stop.Stop.{Stop}
use Rattle.ob_seats.specs.declared.stop.Stop.TheVariants.{Memory, Refused}
use Rattle.ob_seats.specs.declared.stop.Stopped.{Stopped}
use Rattle.ob_seats.specs.Received.{Entries}
use Rattle.ob_seats.specs.Played.{ArePlayed, IsRunBy}

-- why a seat stops at a fault
abbrev pub stop_of : Fault → Stop
stop_of fault.Memory = Memory
stop_of (fault.Refused status) = Refused

-- what is known of a fault that a call answered
abbrev pub Known : Type 1
Known = Fault → Type 0

-- a seat stops for this reason at a fault of which this is known
abbrev pub IsStopAt : Known → Stop → Type 0
IsStopAt known why = (fault : Fault) × known fault × (why ≡ stop_of fault)

-- ---- opens that stop

-- the open of a ticket is abandoned: by a step, or by none where it is a stranger's
abbrev pub IsAbandoned : ℕ → Entries → Type 0
IsAbandoned n entries =
    (entries ≡ [])
    ⊎ ((e : Entry StandardKind) × (parse : ParseRun) × (entries ≡ e ∷ []) × (e.event ≡ Abandon n parse) × (e.answer ≡ answers Success))

-- The open of a ticket comes to no reply by these entries. As far as they go, it is resumed with its parse and waits under another ticket; then it is
-- abandoned, by the last entry, or by none.
abbrev pub IsBrokenOff : ℕ → Entries → Type 0
IsBrokenOff n [] = Unit {0}
IsBrokenOff n (e ∷ es) =
    ((parse : ParseRun) × (e.event ≡ Abandon n parse) × (e.answer ≡ answers Success) × (es ≡ []))
    ⊎ ((parse : ParseRun) × (m : ℕ) × HasRun parse × (e.event ≡ Resume n parse) × (e.answer ≡ Ticket m) × IsBrokenOff m es)

-- an event comes to no reply by these entries: it makes no step; or its open waits under a ticket and comes to no reply
abbrev pub IsEventBrokenOff : Event StandardKind → Entries → Type 0
IsEventBrokenOff event [] = Unit {0}
IsEventBrokenOff event (e ∷ es) = (n : ℕ) × (e.event ≡ event) × (e.answer ≡ Ticket n) × IsBrokenOff n es

-- a ticket is above all that are under variables, and above 0, so that its open can be kept
abbrev pub IsNewTicket : Variables → ℕ → Type 0
IsNewTicket variables n = (process : ℕ) (variable : List ℕ) → variables.tickets process variable < n

-- why the open of a ticket isn't kept: there is no memory for it, or its ticket isn't above those under variables, as each of a shared namespace is
abbrev pub IsNotKept : Variables → ℕ → Stop → Type 0
IsNotKept variables n why = ((why ≡ Memory) × IsNewTicket variables n) ⊎ ((why ≡ Refused) × (¬ IsNewTicket variables n))

-- an event leads to a ticket, whose open can't be kept under these variables and is abandoned
abbrev pub IsStepNotKept : Event StandardKind → Entries → Stop → Variables → Type 0
IsStepNotKept event entries why variables =
    (e : Entry StandardKind) × (n : ℕ) × (es : Entries) × (entries ≡ e ∷ es) × (e.event ≡ event) × (e.answer ≡ Ticket n) × IsAbandoned n es
    × IsNotKept variables n why

-- ---- lines that stop

-- A request of a process stops after these entries, and leaves other variables. It finds no memory before its first step; or a call answers a fault, and its
-- command comes to no reply; or its command is run to its reply, and the variables of a new process find no memory.
abbrev pub IsRequestBegun : Known → Request (List ℕ) → ℕ → Variables → Entries → Stop → Variables → Type 0
IsRequestBegun known request process variables entries why variables' =
    ((entries ≡ []) × (why ≡ Memory) × (variables' ≡ variables))
    ⊎ ((c : Command StandardKind) × IsCommand request variables process c × IsEventBrokenOff (Start process c) entries × IsStopAt known why × (variables' ≡ variables))
    ⊎ ((c : Command StandardKind) × (reply : Reply) × (child : List ℕ) × (inherit : Bool) × IsCommand request variables process c
    × IsRunBy (Start process c) entries reply × (change_of request ≡ SetsProcess child inherit) × (why ≡ Memory)
    × (variables' ≡ with_process variables child (given_process reply.given)))

-- So does a step of an open that waits. One that begins finds no memory, or a call answers a fault; or it leads to a ticket and isn't kept. One that ends
-- finds no memory for its variable; or a call answers a fault, and it is abandoned; or it leads to another ticket and isn't kept. One that is dropped is
-- a stranger's.
abbrev pub IsStepBegun : Known → PendingForm (List ℕ) → ℕ → Variables → Entries → Stop → Variables → Type 0
IsStepBegun known (Begin want name attrs variable) process variables entries why variables' =
    ((entries ≡ []) × ((why ≡ Memory) ⊎ IsStopAt known why) × (variables' ≡ variables))
    ⊎ ((c : Command StandardKind) × IsOpenObject want name attrs (variables.values process) c × IsStepNotKept (Start process c) entries why (with_ticket variables process variable 0)
    × (variables' ≡ with_ticket variables process variable 0))
IsStepBegun known (End variable) process variables entries why variables' =
    ((entries ≡ []) × (why ≡ Memory) × (variables' ≡ variables))
    ⊎ (IsAbandoned (variables.tickets process variable) entries × IsStopAt known why × (variables' ≡ with_ticket variables process variable 0))
    ⊎ ((parse : ParseRun) × HasRun parse × IsStepNotKept (Resume (variables.tickets process variable) parse) entries why (with_ticket variables process variable 0)
    × (variables' ≡ with_ticket variables process variable 0))
IsStepBegun known (Drop variable) process variables entries why variables' =
    (entries ≡ []) × (why ≡ Refused) × (variables' ≡ variables_answered variables process variable (answers Success))

-- so does a line of an open that waits, which makes a step
abbrev pub IsWaitBegun : Known → PendingForm (List ℕ) → ℕ → Variables → Entries → Stop → Variables → Type 0
IsWaitBegun known pending process variables entries why variables' =
    MakesStep pending process variables × IsStepBegun known pending process variables entries why variables'

-- A line of this form of a script without workers stops after these entries, for this reason, and leaves other variables. The entries are a proper beginning of
-- those that it plays, without the last where that abandons its open; or all of them, where the variables that its reply changes find no memory.
abbrev pub IsScriptLineBegun : Known → Form (List ℕ) → Variables → Entries → Stop → Variables → Type 0
IsScriptLineBegun known Nothing variables entries why variables' = ⊥
IsScriptLineBegun known Stat variables entries why variables' = ⊥
IsScriptLineBegun known (Asks process request) variables entries why variables' =
    IsRequestBegun known request (variables.processes process) variables entries why variables'
IsScriptLineBegun known (Waits process pending) variables entries why variables' =
    IsWaitBegun known pending (variables.processes process) variables entries why variables'

-- so does a line of a seat; a seal never stops
abbrev pub IsLineBegun : Known → SeatForm (List ℕ) → Variables → Entries → Stop → Variables → Type 0
IsLineBegun known Seal variables entries why variables' = ⊥
IsLineBegun known (Line form) variables entries why variables' = IsScriptLineBegun known form variables entries why variables'

-- ---- seats that stop

-- A seat stops at one of these lines, the first of which has this number. The lines before it were played, one after another, and of this line a beginning.
pub record IsPartStopped (known : Fault → Type 0) (first : ℕ) (lines : Lines) (variables : Variables) (entries : Entries) (stopped : Stopped) (variables' : Variables) : Type 0 where
  pub front : Lines
  pub line : List ℕ
  pub later : Lines
  pub whole : lines ≡ front ++ line ∷ later
  pub number_is : stopped.line ≡ first + length front
  pub own : Entries
  pub begun : Entries
  pub received : entries ≡ own ++ begun
  pub between : Variables
  pub played : ArePlayed front variables own between
  pub form : SeatForm (List ℕ)
  pub is_form : IsLineOfSeat line form
  pub stops : IsLineBegun known form between begun stopped.why variables'

-- some opens of these tickets are given up by these entries, in their order
abbrev pub AreAmongGivenUp : List ℕ → Entries → Type 0
AreAmongGivenUp [] entries = entries ≡ []
AreAmongGivenUp (n ∷ tickets) entries =
    AreAmongGivenUp tickets entries
    ⊎ ((e : Entry StandardKind) × (es : Entries) × (entries ≡ e ∷ es) × (step_of e ≡ given_up n) × AreAmongGivenUp tickets es)

-- no open waits under variables any longer: by rising tickets each is given up by one of these entries, except those that are a stranger's
abbrev pub AreLetGo : Variables → Entries → Type 0
AreLetGo variables entries = (tickets : List ℕ) × AreTickets variables.tickets tickets × AreAmongGivenUp tickets entries

-- the lines were played to their end, and an open that waits then is a stranger's
pub record IsEndStopped (first : ℕ) (lines : Lines) (variables : Variables) (entries : Entries) (stopped : Stopped) (variables' : Variables) : Type 0 where
  pub played : ArePlayed lines variables entries variables'
  pub number_is : stopped.line ≡ first + length lines
  pub refused : stopped.why ≡ Refused

-- A seat that runs these lines and ends stops at one of them, or after the last; then no open waits any longer.
pub record IsSeatStopped (known : Fault → Type 0) (first : ℕ) (lines : Lines) (variables : Variables) (entries : Entries) (stopped : Stopped) : Type 0 where
  pub own : Entries
  pub ended : Entries
  pub left : Variables
  pub whole : entries ≡ own ++ ended
  pub stops : IsPartStopped known first lines variables own stopped left ⊎ IsEndStopped first lines variables own stopped left
  pub let_go : AreLetGo left ended
