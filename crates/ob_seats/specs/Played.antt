-- The effects of a seat's lines: the steps that they make, known by the receipts of its pass alone, and the variables after
-- them.
--
-- Source: this profile.
use Rattle.std.specs.Prelude.{◌≡◌, ◌⊎◌, ℕ, List, [], ◌∷◌, ◌++◌, map, Some}
use Rattle.ob_model.specs.declared.command.Command.{Command}
use Rattle.ob_model.specs.declared.reply.Event.{Event}
use Rattle.ob_model.specs.declared.reply.Event.TheVariants.{Start, Resume}
use Rattle.ob_model.specs.declared.reply.ParseRun.{ParseRun}
use Rattle.ob_model.specs.declared.reply.Reply.{Reply}
use Rattle.ob_model.specs.Run.{Entry}
use Rattle.ob_runner.specs.Completes.{HasRun, Leads, step_of}
use Rattle.ob_standard.specs.Standard.{StandardKind}
use Rattle.ob_lines.specs.declared.form.Form.{Form}
use Rattle.ob_lines.specs.declared.form.Form.TheVariants.{Nothing, Stat, Asks, Waits}
use Rattle.ob_lines.specs.declared.pending.PendingForm.{PendingForm}
use Rattle.ob_lines.specs.declared.request.Request.{Request}
use Rattle.ob_worker_lines.specs.declared.form.SeatForm.{SeatForm}
use Rattle.ob_worker_lines.specs.declared.form.SeatForm.TheVariants.{Seal, Line}
use Rattle.ob_worker_lines.specs.Cuts.{Lines}
use Rattle.ob_worker_lines.specs.Forms.{IsLineOfSeat}
use Rattle.ob_requests.specs.Commands.{IsCommand, variables_after}
use Rattle.ob_requests.specs.Variables.{Variables}
use Rattle.ob_effects.specs.Effects.{MakesStep}
use Rattle.ob_effects.specs.Waiting.{AreTickets, IsEvent, given_up, is_waiting, told_instead, variable_of, variables_answered}
use Rattle.ob_seats.specs.Received.{Entries}

-- An event is run to its reply by these entries: where an open waits for a parse, that is run and the open resumed with it, and
-- so on.
abbrev pub IsRunBy : Event StandardKind → Entries → Reply → Type 0
IsRunBy event [] reply = ⊥
IsRunBy event (e ∷ es) reply =
    (e.event ≡ event)
    × Leads e.answer (λ given. (given ≡ reply) × (es ≡ [])) (λ n. (parse : ParseRun) × HasRun parse × IsRunBy (Resume n parse) es reply)

-- a request of a process, with these variables, is played: its command is run to a reply, which leaves these variables
abbrev pub IsRequestPlayed : Request (List ℕ) → ℕ → Variables → Entries → Variables → Type 0
IsRequestPlayed request process variables entries variables' =
    (c : Command StandardKind) × (reply : Reply) × IsCommand request variables process c × IsRunBy (Start process c) entries reply
    × (variables' ≡ variables_after request process reply variables)

-- a line of an open that waits makes one step, with this entry
abbrev pub IsStepPlayed : PendingForm (List ℕ) → ℕ → Variables → Entry StandardKind → Variables → Type 0
IsStepPlayed pending process variables e variables' = IsEvent pending variables process e.event × (variables' ≡ variables_answered variables process (variable_of pending) e.answer)

-- so it is played: nothing is done, where there is a notice in place of a step; or it makes a step
abbrev pub IsWaitPlayed : PendingForm (List ℕ) → ℕ → Variables → Entries → Variables → Type 0
IsWaitPlayed pending process variables entries variables' =
    ((text : List ℕ) × (told_instead pending (is_waiting variables process (variable_of pending)) ≡ Some text) × (entries ≡ []) × (variables' ≡ variables))
    ⊎ (MakesStep pending process variables × (e : Entry StandardKind) × (entries ≡ e ∷ []) × IsStepPlayed pending process variables e variables')

-- a line of this form of a script without workers is played; `stat` does nothing
abbrev pub IsScriptLinePlayed : Form (List ℕ) → Variables → Entries → Variables → Type 0
IsScriptLinePlayed Nothing variables entries variables' = (entries ≡ []) × (variables' ≡ variables)
IsScriptLinePlayed Stat variables entries variables' = (entries ≡ []) × (variables' ≡ variables)
IsScriptLinePlayed (Asks process request) variables entries variables' = IsRequestPlayed request (variables.processes process) variables entries variables'
IsScriptLinePlayed (Waits process pending) variables entries variables' = IsWaitPlayed pending (variables.processes process) variables entries variables'

-- a line of this form of a seat is played; `seal` makes no step, and changes no variable
abbrev pub IsLinePlayed : SeatForm (List ℕ) → Variables → Entries → Variables → Type 0
IsLinePlayed Seal variables entries variables' = (entries ≡ []) × (variables' ≡ variables)
IsLinePlayed (Line form) variables entries variables' = IsScriptLinePlayed form variables entries variables'

-- lines are played one after another
abbrev pub ArePlayed : Lines → Variables → Entries → Variables → Type 0
ArePlayed [] variables entries variables' = (entries ≡ []) × (variables' ≡ variables)
ArePlayed (line ∷ lines) variables entries variables' =
    (form : SeatForm (List ℕ)) × IsLineOfSeat line form × (front back : Entries) × (between : Variables) × (entries ≡ front ++ back)
    × IsLinePlayed form variables front between × ArePlayed lines between back variables'

-- all opens that wait under variables are given up by these entries, by rising tickets, and their parses aren't run
abbrev pub AreGivenUp : Variables → Entries → Type 0
AreGivenUp variables entries = (tickets : List ℕ) × AreTickets variables.tickets tickets × (map step_of entries ≡ map given_up tickets)

-- A seat plays its lines to their end: one after another, and then what waits is given up.
pub record IsSeatPlayed (lines : Lines) (variables : Variables) (entries : Entries) : Type 0 where
  pub own : Entries
  pub ended : Entries
  pub behind : Variables
  pub whole : entries ≡ own ++ ended
  pub played : ArePlayed lines variables own behind
  pub given_up : AreGivenUp behind ended
