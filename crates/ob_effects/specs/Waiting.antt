-- Opens that wait under handle variables: what the lines that begin, end and drop them ask for, and what they leave.
--
-- Source: this profile; Windows Internals, Object Manager (parse methods), for opens that go into an object.
use Rattle.std.specs.Prelude.{◌≡◌, ◌≢◌, ◌<◌, ℕ, ◌==◌, Bool, true, not, if◌then◌else◌, List, [], ◌⊎◌, map, All, AllPairs, Option, Some, None, codes}
use Rattle.std.specs.List.{list_any}
use Rattle.ob_base.specs.declared.status.Status.TheVariants.{Success}
use Rattle.ob_model.specs.declared.command.Command.{Command}
use Rattle.ob_model.specs.declared.reply.Answer.{Answer}
use Rattle.ob_model.specs.declared.reply.Answer.TheVariants.{Done, Ticket}
use Rattle.ob_model.specs.declared.reply.Event.{Event}
use Rattle.ob_model.specs.declared.reply.Event.TheVariants.{Start, Resume, Abandon}
use Rattle.ob_model.specs.declared.reply.ParseRun.{ParseRun}
use Rattle.ob_model.specs.declared.reply.ParseRun.TheVariants as run
use Rattle.ob_model.specs.Refusals.{answers}
use Rattle.ob_runner.specs.Completes.{Made, HasRun, GivesUp, Falters}
use Rattle.ob_runner.specs.Begun.{GivesAllUp}
use Rattle.ob_standard.specs.Standard.{StandardKind, standard}
use Rattle.ob_lines.specs.declared.pending.PendingForm.{PendingForm}
use Rattle.ob_lines.specs.declared.pending.PendingForm.TheVariants.{Begin, End, Drop}
use Rattle.ob_output.specs.Printed.{reply_text}
use Rattle.ob_requests.specs.Commands.{IsOpenObject, given_handle}
use Rattle.ob_requests.specs.Variables.{Variables, with_variable, with_ticket}
use Rattle.ob_standard_core.specs.Machine.{Space}

-- the steps of a run of the machine that a script asks for
abbrev pub Steps : Type 0
Steps = List (Made StandardKind)

-- the handle variable of a line of an open that waits
abbrev pub variable_of : PendingForm (List ℕ) → List ℕ
variable_of (Begin want name attrs variable) = variable
variable_of (End variable) = variable
variable_of (Drop variable) = variable

-- an open waits under a variable of a process
abbrev pub is_waiting : Variables → ℕ → List ℕ → Bool
is_waiting variables process variable = not (variables.tickets process variable == 0)

-- the notice in place of a step: no open is begun under a variable under which one waits, and where none waits none is
-- ended or dropped
abbrev pub told_instead : PendingForm (List ℕ) → Bool → Option (List ℕ)
told_instead (Begin want name attrs variable) waits = if waits then Some (codes "BUSY") else None
told_instead (End variable) waits = if waits then None else Some (codes "NO PENDING")
told_instead (Drop variable) waits = if waits then None else Some (codes "NO PENDING")

-- The event that such a line of a process makes, with these variables: an open begins; or the parse of the open that
-- waits was run, and is brought; or that open is given up, and its parse wasn't run.
abbrev pub IsEvent : PendingForm (List ℕ) → Variables → ℕ → Event StandardKind → Type 0
IsEvent (Begin want name attrs variable) variables process event =
    (c : Command StandardKind) × IsOpenObject want name attrs (variables.values process) c × (event ≡ Start process c)
IsEvent (End variable) variables process event = (parse : ParseRun) × HasRun parse × (event ≡ Resume (variables.tickets process variable) parse)
IsEvent (Drop variable) variables process event = event ≡ Abandon (variables.tickets process variable) run.Unrun

-- what is printed of its answer: the reply, or that the open waits
abbrev pub answer_text : Answer → List ℕ
answer_text (Done reply) = reply_text reply
answer_text (Ticket n) = codes "PENDING"

-- The variables after its answer. Where that is a reply, no open waits under the variable any longer, which is set to the handle
-- that was given, or to 0 where none was. Where it is a ticket, the open waits under the variable, whose value stays.
abbrev pub variables_answered : Variables → ℕ → List ℕ → Answer → Variables
variables_answered variables process variable (Done reply) = with_variable (with_ticket variables process variable 0) process variable (given_handle reply.given)
variables_answered variables process variable (Ticket n) = with_ticket variables process variable n

-- Such a line found no memory, in the state s and with these variables: before a step, so that there is none; or after
-- these, which give its open up and lead to the state t and to other variables.
abbrev pub FindsNone : PendingForm (List ℕ) → Variables → ℕ → Steps → Space → Space → Variables → Type 0
FindsNone (Begin want name attrs variable) variables process steps s t variables' =
    (((steps ≡ []) × (t ≡ s)) ⊎ ((c : Command StandardKind) × IsOpenObject want name attrs (variables.values process) c × Falters standard (Start process c) steps s t))
    × (variables' ≡ variables)
FindsNone (End variable) variables process steps s t variables' =
    ((steps ≡ []) × (t ≡ s) × (variables' ≡ variables))
    ⊎ (GivesUp standard (variables.tickets process variable) steps s t × (variables' ≡ with_ticket variables process variable 0))
FindsNone (Drop variable) variables process steps s t variables' = ⊥

-- a ticket under a variable
abbrev pub IsUnderVariable : (ℕ → List ℕ → ℕ) → ℕ → Type 0
IsUnderVariable under n = (n ≢ 0) × ((process : ℕ) × (variable : List ℕ) × (under process variable ≡ n))

-- these are all tickets under variables, rising
pub record AreTickets (under : ℕ → List ℕ → ℕ) (tickets : List ℕ) : Type 0 where
  pub rising : AllPairs (λ a b. a < b) tickets
  pub held : All (IsUnderVariable under) tickets
  pub all : (process : ℕ) (variable : List ℕ) → (under process variable ≡ 0) ⊎ (list_any (λ n. n == under process variable) tickets ≡ true)

-- the step that gives the open of a ticket up, whose parse wasn't run
abbrev pub given_up : ℕ → Made StandardKind
given_up n = (Abandon n run.Unrun, answers Success)

-- these steps give up all opens that wait under variables, by rising tickets
abbrev pub GiveAllUp : Variables → Space → Steps → Type 0
GiveAllUp variables s steps =
    (tickets : List ℕ) × (t : Space) × AreTickets variables.tickets tickets × GivesAllUp standard tickets s t × (steps ≡ map given_up tickets)
