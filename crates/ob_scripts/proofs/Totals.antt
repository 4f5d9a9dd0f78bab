-- Whatever lines come, a run of them from a sound state shows something, and wants no memory.
use Rattle.std.proofs.Common.{◌≡◌, ◌≢◌, ℕ, ◌+◌, List, [], ◌∷◌, ◌++◌, ◌⊎◌, map, codes, Option, Some, None, refl, inl, inr}
use Rattle.std.specs.Option.{option_map}
use Rattle.ob_model.specs.declared.command.Command.{Command}
use Rattle.ob_model.specs.declared.command.Command.TheVariants as command
use Rattle.ob_model.specs.declared.command.Place.{Place}
use Rattle.ob_model.specs.declared.command.Place.TheVariants as place
use Rattle.ob_base.specs.declared.status.Status.TheVariants.{Success}
use Rattle.ob_model.specs.declared.reply.Answer.{Answer}
use Rattle.ob_model.specs.declared.reply.Event.{Event}
use Rattle.ob_model.specs.declared.reply.Event.TheVariants.{Start, Resume, Abandon}
use Rattle.ob_model.specs.declared.reply.ParseRun.TheVariants as run
use Rattle.ob_model.specs.Refusals.{answers}
use Rattle.ob_model.specs.Run.{RunFrom}
use Rattle.ob_model.specs.Sound.{IsSound}
use Rattle.ob_model.specs.Step.{Step}
use Rattle.ob_model.proofs.Steps.{step_sound}
use Rattle.ob_model.proofs.Total.{start_total}
use Rattle.ob_runner.specs.Completes.{step_of}
use Rattle.ob_runner.proofs.Chains.{completes_sound, completes_run, entered, behind as count_behind, entered_steps}
use Rattle.ob_runner.proofs.TotalChains.{completes_total}
use Rattle.ob_standard.specs.Standard.{StandardKind, standard}
use Rattle.ob_standard.proofs.Fronts.{standard_front}
use Rattle.ob_lines.specs.declared.form.Form.TheVariants.{Nothing, Stat, Asks, Waits}
use Rattle.ob_lines.specs.declared.pending.PendingForm.{PendingForm}
use Rattle.ob_lines.specs.declared.pending.PendingForm.TheVariants as pending
use Rattle.ob_parts.specs.declared.name.PlaceForm.{PlaceForm}
use Rattle.ob_parts.specs.declared.name.PlaceForm.TheVariants.{Named, Unnamed}
use Rattle.ob_lines.specs.declared.request.Request.{Request}
use Rattle.ob_lines.specs.declared.request.Request.TheVariants.{CreateDirectory, CreateShadowed, CreateLink, CreateObject, OpenDirectory, OpenLink, OpenObject, Close, QueryLink, QueryName, QueryDirectory, Duplicate, MakeTemporary, MakePermanent, SetDeviceMap, NewProcess, ExitProcess}
use Rattle.ob_lines.specs.Grammar.{HasPlaceText, HasTexts, PendingHasTexts}
use Rattle.ob_parts.specs.Pages.{is_first, is_single}
use Rattle.ob_lines.specs.Script.{Forms}
use Rattle.ob_lines.proofs.Scripted.{HaveTexts}
use Rattle.ob_output.specs.Printed.{output_line, reply_text, counts_text}
use Rattle.ob_scripts.specs.declared.run.Ending.{Ending}
use Rattle.ob_scripts.specs.declared.run.Ending.TheVariants as ending
use Rattle.ob_requests.specs.Variables.{Variables}
use Rattle.ob_requests.specs.Commands.{IsPlace, IsCommand, kind_meant, handle_meant, root_of, variables_after}
use Rattle.ob_effects.specs.Machine.{Space, counts_of}
use Rattle.ob_effects.specs.Effects.{MakesStep}
use Rattle.ob_effects.specs.Kept.{WaitsUnder, AreWaiting}
use Rattle.ob_effects.specs.Waiting.{Steps, variable_of, is_waiting, told_instead, IsEvent, answer_text, variables_answered}
use Rattle.ob_effects.proofs.Awaiting.{answered_waiting, carried_waiting, drop_some, end_some}
use Rattle.ob_scripts.specs.Shown.{Entries, AreOfSeat0, Shows, FindsMemory}
use Rattle.ob_scripts.proofs.Finals.{abandon_total, finals_total, resume_total}

-- a place and a request whose texts are texts mean something
place_total : (form : PlaceForm (List ℕ)) (values : List ℕ → ℕ) → HasPlaceText form → (where_to : Place) × IsPlace form values where_to
place_total (Named name) values (bytes, spelled) = (place.At (root_of name values) bytes, (bytes, spelled, refl))
place_total Unnamed values text = (place.Unnamed, refl)

command_total : (request : Request (List ℕ)) (variables : Variables) (process : ℕ) → HasTexts request → (c : Command StandardKind) × IsCommand request variables process c
command_total (CreateDirectory form attrs variable) variables process text =
    let spot = place_total form (variables.values process) text in (command.CreateDirectory spot.0 attrs, (spot.0, spot.1, refl))
command_total (CreateShadowed shadow form attrs variable) variables process text =
    let spot = place_total form (variables.values process) text in (command.CreateShadowed spot.0 attrs (handle_meant shadow (variables.values process)), (spot.0, spot.1, refl))
command_total (CreateLink form attrs target variable) variables process (text, (bytes, spelled)) =
    let spot = place_total form (variables.values process) text in (command.CreateLink spot.0 attrs bytes, (spot.0, bytes, spot.1, spelled, refl))
command_total (CreateObject kind form attrs args variable) variables process (text, (bytes, spelled)) =
    let spot = place_total form (variables.values process) text in (command.CreateObject spot.0 attrs (kind_meant kind) bytes, (spot.0, bytes, spot.1, spelled, refl))
command_total (OpenDirectory name attrs variable) variables process (bytes, spelled) =
    (command.OpenDirectory (root_of name (variables.values process)) bytes attrs, (bytes, spelled, refl))
command_total (OpenLink name attrs variable) variables process (bytes, spelled) =
    (command.OpenLink (root_of name (variables.values process)) bytes attrs, (bytes, spelled, refl))
command_total (OpenObject want name attrs variable) variables process (bytes, spelled) =
    (command.OpenObject (root_of name (variables.values process)) bytes attrs (option_map kind_meant want), (bytes, spelled, refl))
command_total (Close handle) variables process text = (command.Close (handle_meant handle (variables.values process)), refl)
command_total (QueryLink handle) variables process text = (command.QueryLink (handle_meant handle (variables.values process)), refl)
command_total (QueryName handle) variables process text = (command.QueryName (handle_meant handle (variables.values process)), refl)
command_total (QueryDirectory handle room mode) variables process text =
    (command.QueryDirectory (handle_meant handle (variables.values process)) (variables.contexts process handle.variable) room (is_single mode) (is_first mode), refl)
command_total (Duplicate handle to inherit variable) variables process text =
    (command.Duplicate (handle_meant handle (variables.values process)) (variables.processes to) inherit, refl)
command_total (MakeTemporary handle) variables process text = (command.MakeTemporary (handle_meant handle (variables.values process)), refl)
command_total (MakePermanent handle) variables process text = (command.MakePermanent (handle_meant handle (variables.values process)), refl)
command_total (SetDeviceMap handle) variables process text = (command.SetDeviceMap (handle_meant handle (variables.values process)), refl)
command_total (NewProcess inherit child) variables process text = (command.NewProcess inherit, refl)
command_total ExitProcess variables process text = (command.ExitProcess, refl)

-- the entries of a command's steps are of seat 0, as those after them
pub entered_seat : (count : ℕ) (steps : Steps) (rest : Entries) → AreOfSeat0 rest → AreOfSeat0 (entered count steps ++ rest)
entered_seat count [] rest seats = seats
entered_seat count (step ∷ steps) rest seats = (refl, entered_seat (count + 1) steps rest seats)

-- the open that waits under a variable
owner : (s : Space) (variables : Variables) (p : ℕ) (variable : List ℕ) → variables.tickets p variable ≢ 0 → (variables.tickets p variable ≡ 0) ⊎ WaitsUnder s (variables.tickets p variable) p → WaitsUnder s (variables.tickets p variable) p
owner s variables p variable some (inl none) = absurd (some none)
owner s variables p variable some (inr waits) = waits

-- what lines of any forms show from here on, with these variables
abbrev pub ShowSomething : Forms → ℕ → Variables → Space → ℕ → Type 0
ShowSomething forms number variables s count =
    (entries : Entries) × (t : Space) × (output : List ℕ) × (end : Ending) × FindsMemory end × RunFrom standard s count entries t × AreOfSeat0 entries
    × Shows number forms variables s (map step_of entries) output end

-- the step of a line of an open that waits, where it makes one
step_of_line : (s : Space) (variables : Variables) (p : ℕ) (line : PendingForm (List ℕ)) (tickets : List ℕ) → IsSound s → PendingHasTexts line → MakesStep line p variables → AreWaiting s variables tickets
    → (event : Event StandardKind) × (a : Answer) × (t : Space) × IsEvent line variables p event × Step standard s event a t
step_of_line s variables p (pending.Begin want name attrs variable) tickets sound text makes waiting =
    let c = command_total (OpenObject want name attrs variable) variables p text in
    let step = start_total standard s p c.0 sound in
    (Start p c.0, step.0, step.1, (c.0, c.1, refl), step.2)
step_of_line s variables p (pending.End variable) tickets sound text makes waiting =
    let step = resume_total s (variables.tickets p variable) p sound (owner s variables p variable (end_some variables p variable makes) (waiting.theirs p variable)) in
    (Resume (variables.tickets p variable) run.Ran, step.0, step.1, (run.Ran, tt, refl), step.2)
step_of_line s variables p (pending.Drop variable) tickets sound text makes waiting =
    let step = abandon_total s (variables.tickets p variable) p (owner s variables p variable (drop_some variables p variable makes) (waiting.theirs p variable)) in
    (Abandon (variables.tickets p variable) run.Unrun, answers Success, step.0, refl, step.1)

-- lines of any forms show something
pub shows_total : (forms : Forms) (number : ℕ) (variables : Variables) (s : Space) (count : ℕ) (tickets : List ℕ) → HaveTexts forms → IsSound s → AreWaiting s variables tickets
    → ShowSomething forms number variables s count
shows_total [] number variables s count tickets texts sound waiting =
    let final = finals_total s variables tickets count sound waiting in
    (final.0, final.1, [], ending.Done, tt, final.2, final.3, (final.4, refl, refl))
shows_total (None ∷ forms) number variables s count tickets texts sound waiting =
    let final = finals_total s variables tickets count sound waiting in
    (final.0, final.1, output_line number (codes "not a script line"), ending.BadLine number, tt, final.2, final.3, (final.4, refl, refl))
shows_total (Some Nothing ∷ forms) number variables s count tickets texts sound waiting = shows_total forms (number + 1) variables s count tickets texts.1 sound waiting
shows_total (Some Stat ∷ forms) number variables s count tickets texts sound waiting =
    let rest = shows_total forms (number + 1) variables s count tickets texts.1 sound waiting in
    (rest.0, rest.1, output_line number (counts_text (counts_of s)) ++ rest.2, rest.3, rest.4, rest.5, rest.6, (rest.2, refl, rest.7))
shows_total (Some (Asks process request) ∷ forms) number variables s count tickets texts sound waiting =
    let p = variables.processes process in
    let c = command_total request variables p texts.0 in
    let done = completes_total standard standard_front s p c.0 sound in
    let own : Steps = done.0 in
    let reply = done.1 in
    let u = done.2 in
    let rest = shows_total forms (number + 1) (variables_after request p reply variables) u (count_behind count own) tickets texts.1 (completes_sound standard (Start p c.0) own s u reply sound done.3)
    (answered_waiting s u variables p request c.0 own reply tickets sound done.3 waiting) in (
      entered count own ++ rest.0,
      rest.1,
      output_line number (reply_text reply) ++ rest.2,
      rest.3,
      rest.4,
      completes_run standard (Start p c.0) own s u reply count rest.0 rest.1 done.3 rest.5,
      entered_seat count own rest.0 rest.6,
      inl (c.0, own, map step_of rest.0, rest.2, reply, u, c.1, done.3, entered_steps count own rest.0, refl, rest.7),
    )
shows_total (Some (Waits process line) ∷ forms) number variables s count tickets texts sound waiting =
    go (told_instead line (is_waiting variables p (variable_of line))) refl (shows_total forms (number + 1) variables s count tickets texts.1 sound waiting)
    (λ u variables' left sound waiting. shows_total forms (number + 1) variables' u (count + 1) left texts.1 sound waiting)
  where
    p : ℕ
    p = variables.processes process

    go : (told : Option (List ℕ)) → told_instead line (is_waiting variables p (variable_of line)) ≡ told → ShowSomething forms (number + 1) variables s count
        → ((u : Space) (variables' : Variables) (left : List ℕ) → IsSound u → AreWaiting u variables' left → ShowSomething forms (number + 1) variables' u (count + 1))
        → ShowSomething (Some (Waits process line) ∷ forms) number variables s count
    go (Some text) is rest on = (
      rest.0,
      rest.1,
      output_line number text ++ rest.2,
      rest.3,
      rest.4,
      rest.5,
      rest.6,
      inl (text, rest.2, is, refl, rest.7),
    )
    go None is rest on =
        let step = step_of_line s variables p line tickets sound texts.0 is waiting in
        let event = step.0 in
        let a = step.1 in
        let u = step.2 in
        let left = carried_waiting s u variables p line event a tickets sound is step.3 step.4 waiting in
        let rest = on u (variables_answered variables p (variable_of line) a) left.0 (step_sound standard s u event a sound step.4) left.1 in (
          record { number = count + 1; seat = 0; event = event; answer = a } ∷ rest.0,
          rest.1,
          output_line number (answer_text a) ++ rest.2,
          rest.3,
          rest.4,
          (u, refl, step.4, rest.5),
          (refl, rest.6),
          inr (inl (event, a, map step_of rest.0, rest.2, u, is, step.3, step.4, refl, refl, rest.7)),
        )
