-- The run that a script asks for, and the text that it prints.
--
-- Source: this profile.
use Rattle.std.specs.Prelude.{◌≡◌, ◌≢◌, ℕ, ◌+◌, ◌⊎◌, List, [], ◌∷◌, ◌++◌, map, Option, Some, None, codes}
use Rattle.std.specs.Io.KnownBytes.{Appends}
use Rattle.ob_model.specs.declared.command.Command.{Command}
use Rattle.ob_model.specs.declared.reply.Reply.{Reply}
use Rattle.ob_model.specs.declared.reply.Answer.{Answer}
use Rattle.ob_model.specs.declared.reply.Event.{Event}
use Rattle.ob_model.specs.declared.reply.Event.TheVariants.{Start}
use Rattle.ob_model.specs.Opening.{opening}
use Rattle.ob_model.specs.Run.{Entry, Run}
use Rattle.ob_model.specs.Step.{Step}
use Rattle.ob_runner.specs.Completes.{step_of, Completes}
use Rattle.ob_standard.specs.Standard.{StandardKind, Standard, standard, IsFresh}
use Rattle.ob_lines.specs.declared.form.Form.{Form}
use Rattle.ob_lines.specs.declared.form.Form.TheVariants.{Nothing, Stat, Asks, Waits}
use Rattle.ob_lines.specs.declared.pending.PendingForm.{PendingForm}
use Rattle.ob_lines.specs.declared.request.Request.{Request}
use Rattle.ob_scripts.specs.declared.run.Ending.{Ending}
use Rattle.ob_scripts.specs.declared.run.Ending.TheVariants as ending
use Rattle.ob_lines.specs.Script.{Forms, BeginsWithForms}
use Rattle.ob_requests.specs.Variables.{Variables, first_variables}
use Rattle.ob_effects.specs.Machine.{Space, counts_of}
use Rattle.ob_requests.specs.Commands.{IsCommand, variables_after}
use Rattle.ob_output.specs.Printed.{output_line, reply_text, counts_text}
use Rattle.ob_effects.specs.Effects.{WantsMemory}
use Rattle.ob_effects.specs.Waiting.{Steps, variable_of, is_waiting, told_instead, IsEvent, answer_text, variables_answered, FindsNone, GiveAllUp}

-- the line of this number finds no memory, after steps that lead to a state and to variables: it says so, and ends the run,
-- and all opens that wait are given up
abbrev pub EndsWanting : ℕ → Variables → Space → Steps → List ℕ → Ending → Type 0
EndsWanting number variables t behind output end =
    (output ≡ output_line number (codes "want of memory")) × (end ≡ ending.NoMemoryAt number) × GiveAllUp variables t behind

-- The line of this number, where a process asks for something in it, shows this before what `Rest` shows: it takes the
-- run's next steps, those that run its command to its reply from the state, prints the reply and continues from the state
-- that they leave; or it finds no memory.
abbrev pub ShowsRequest : ℕ → ℕ → Request (List ℕ) → Variables → Space → Steps → List ℕ → Ending → (Variables → Space → Steps → List ℕ → Type 0) → Type 0
ShowsRequest number p request variables s steps output end Rest =
    ((c : Command StandardKind) × (own : Steps) × (behind : Steps) × (output' : List ℕ) × (reply : Reply) × (s' : Space)
    × IsCommand request variables p c × Completes standard (Start p c) own s reply s'
    × (steps ≡ own ++ behind) × (output ≡ output_line number (reply_text reply) ++ output')
    × Rest (variables_after request p reply variables) s' behind output')
    ⊎ ((own : Steps) × (behind : Steps) × (t : Space) × WantsMemory request p variables own s t × (steps ≡ own ++ behind)
    × EndsWanting number variables t behind output end)

-- The same for an open of a process that waits: it reports why it makes no step, and continues; or it makes
-- one, prints its answer and continues after it; or it finds no memory.
abbrev pub ShowsWait : ℕ → ℕ → PendingForm (List ℕ) → Variables → Space → Steps → List ℕ → Ending → (Variables → Space → Steps → List ℕ → Type 0) → Type 0
ShowsWait number p pending variables s steps output end Rest =
    ((text : List ℕ) × (output' : List ℕ) × (told_instead pending (is_waiting variables p (variable_of pending)) ≡ Some text)
    × (output ≡ output_line number text ++ output') × Rest variables s steps output')
    ⊎ ((event : Event StandardKind) × (answer : Answer) × (behind : Steps) × (output' : List ℕ) × (s' : Space)
    × (told_instead pending (is_waiting variables p (variable_of pending)) ≡ None) × IsEvent pending variables p event × Step standard s event answer s'
    × (steps ≡ (event, answer) ∷ behind) × (output ≡ output_line number (answer_text answer) ++ output')
    × Rest (variables_answered variables p (variable_of pending) answer) s' behind output')
    ⊎ ((own : Steps) × (behind : Steps) × (t : Space) × (variables' : Variables)
    × (told_instead pending (is_waiting variables p (variable_of pending)) ≡ None) × FindsNone pending variables p own s t variables' × (steps ≡ own ++ behind)
    × EndsWanting number variables' t behind output end)

-- The line of this number, where it is of this form, shows this before what `Rest` shows for the
-- variables, the state, the steps and the output that are left. A line that does nothing shows nothing.
-- A `stat` prints the counts of the state and continues. A line of a process shows its request, or the progress of an open
-- that waits.
abbrev pub ShowsForm : ℕ → Form (List ℕ) → Variables → Space → Steps → List ℕ → Ending → (Variables → Space → Steps → List ℕ → Type 0) → Type 0
ShowsForm number Nothing variables s steps output end Rest = Rest variables s steps output
ShowsForm number Stat variables s steps output end Rest =
    (output' : List ℕ) × (output ≡ output_line number (counts_text (counts_of s)) ++ output') × Rest variables s steps output'
ShowsForm number (Asks process request) variables s steps output end Rest =
    ShowsRequest number (variables.processes process) request variables s steps output end Rest
ShowsForm number (Waits process pending) variables s steps output end Rest =
    ShowsWait number (variables.processes process) pending variables s steps output end Rest

-- Lines of these forms, the first of this number, show the steps of a run and print the output, with
-- these variables and in this state at first, and the run ends so. A line that is no script line says so
-- and ends the run. However it ends, all opens that wait are given up.
abbrev pub Shows : ℕ → Forms → Variables → Space → Steps → List ℕ → Ending → Type 0
Shows number [] variables s steps output end = GiveAllUp variables s steps × (output ≡ []) × (end ≡ ending.Done)
Shows number (Some form ∷ forms) variables s steps output end =
    ShowsForm number form variables s steps output end (λ variables' s' steps' output'. Shows (number + 1) forms variables' s' steps' output' end)
Shows number (None ∷ forms) variables s steps output end =
    GiveAllUp variables s steps × (output ≡ output_line number (codes "not a script line")) × (end ≡ ending.BadLine number)

-- the entries of a run, and that all are of seat 0
abbrev pub Entries : Type 0
Entries = List (Entry StandardKind)

abbrev pub AreOfSeat0 : Entries → Type 0
AreOfSeat0 [] = Unit {0}
AreOfSeat0 (entry ∷ entries) = (entry.seat ≡ 0) × AreOfSeat0 entries

-- lines of these forms, from a script's first on, show a run from the opening state, of a set that has
-- counted nothing, made of these steps, with this output and this ending
abbrev pub PlaysFormsBy : Forms → Steps → List ℕ → Ending → Type 0
PlaysFormsBy forms steps output end =
    (first : Standard) × (entries : Entries) × (state : Space) × IsFresh first × Run standard first entries state
    × AreOfSeat0 entries × (map step_of entries ≡ steps) × Shows 1 forms first_variables (opening first) steps output end

abbrev pub PlaysForms : Forms → List ℕ → Ending → Type 0
PlaysForms forms output end = (steps : Steps) × PlaysFormsBy forms steps output end

-- A script plays so: its lines from the first on, up to the end of the run, do. A run that is done has
-- played them all.
abbrev pub PlaysBy : List ℕ → Steps → List ℕ → Ending → Type 0
PlaysBy script steps output end =
    (forms : Forms) × (rest : List ℕ) × BeginsWithForms script forms rest × (end ≡ ending.Done → rest ≡ []) × PlaysFormsBy forms steps output end

abbrev pub Plays : List ℕ → List ℕ → Ending → Type 0
Plays script output end = (steps : Steps) × PlaysBy script steps output end

-- an ending other than one out of memory
abbrev pub FindsMemory : Ending → Type 0
FindsMemory ending.Done = Unit {0}
FindsMemory (ending.BadLine number) = Unit {0}
FindsMemory (ending.NoMemoryAt number) = ⊥

-- Lines of all these forms play what the first of them do, which play this output and end so. Where one
-- of those ended the run, all play the same; else all play some output after it, and find memory.
abbrev pub PlaysOn : Forms → List ℕ → Ending → Type 0
PlaysOn all output ending.Done = (more : List ℕ) × (end : Ending) × FindsMemory end × PlaysForms all (output ++ more) end
PlaysOn all output (ending.BadLine number) = PlaysForms all output (ending.BadLine number)
PlaysOn all output (ending.NoMemoryAt number) = PlaysForms all output (ending.NoMemoryAt number)

-- Lines of the script, from its first on, play this output and end so, and the whole script plays that or
-- continues from there, by each reading of it. There is one reading of every script, and no other:
-- `every_script_has_a_reading` and `scripts_have_one_reading` of `ob_lines` say so.
abbrev pub PlaysFirst : List ℕ → List ℕ → Ending → Type 0
PlaysFirst script output end =
    (forms : Forms) × (rest : List ℕ) × BeginsWithForms script forms rest × PlaysForms forms output end
    × ((all : Forms) → BeginsWithForms script all [] → PlaysOn all output end)

-- what lines of the script from its first on play has this beginning, and continues after it; and the whole
-- script plays that or continues from there
abbrev pub PlaysPart : List ℕ → List ℕ → Type 0
PlaysPart script front = (back : List ℕ) × (end : Ending) × (back ≢ []) × PlaysFirst script (front ++ back) end

-- what was written to a writer is what the script plays, and the run ended so
abbrev pub PlaysTo : Option (List ℕ) → Option (List ℕ) → List ℕ → Ending → Type 0
PlaysTo old new script end = (output : List ℕ) × Plays script output end × Appends old new output

-- what was written to a writer is a beginning of what lines of the script play, and of what all do
abbrev pub PlaysPartTo : Option (List ℕ) → Option (List ℕ) → List ℕ → Type 0
PlaysPartTo old new script = (front : List ℕ) × PlaysPart script front × Appends old new front
