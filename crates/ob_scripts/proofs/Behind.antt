-- The output of the rest of a script, after the output so far.
use Rattle.std.proofs.Common.{◌≡◌, ℕ, ◌+◌, List, [], ◌∷◌, ◌++◌, map, Option, Some, None, refl, sym, ap, ◌∙◌, subst, append_assoc, append-nil, inl, inr}
use Rattle.std.specs.Io.KnownBytes.{Appends}
use Rattle.ob_model.specs.declared.reply.Answer.{Answer}
use Rattle.ob_model.specs.declared.reply.Answer.TheVariants.{Done, Ticket}
use Rattle.ob_model.specs.declared.reply.Event.{Event}
use Rattle.ob_model.specs.declared.reply.Event.TheVariants.{Start}
use Rattle.ob_model.specs.Opening.{opening}
use Rattle.ob_model.specs.Run.{RunFrom}
use Rattle.ob_model.specs.Sound.{IsSound}
use Rattle.ob_model.specs.Step.{Step}
use Rattle.ob_model.proofs.Soundness.{opening_sound}
use Rattle.ob_model.proofs.Steps.{step_sound}
use Rattle.ob_runner.specs.Completes.{step_of}
use Rattle.ob_runner.proofs.Chains.{completes_sound, completes_run, entered, behind as count_behind, entered_steps}
use Rattle.ob_effects.specs.declared.outcome.LineOutcome.{LineOutcome}
use Rattle.ob_effects.specs.declared.outcome.LineOutcome.TheVariants as outcome
use Rattle.ob_scripts.specs.declared.run.Ending.{Ending}
use Rattle.ob_scripts.specs.declared.run.Ending.TheVariants as ending
use Rattle.ob_lines.specs.declared.form.Form.{Form}
use Rattle.ob_lines.specs.declared.form.Form.TheVariants.{Nothing, Stat, Asks, Waits}
use Rattle.ob_lines.specs.declared.pending.PendingForm.{PendingForm}
use Rattle.ob_lines.specs.Script.{Forms, BeginsWithLine, BeginsWithForms}
use Rattle.ob_lines.proofs.Scripted.{HaveTexts, begins_more, goes_on}
use Rattle.ob_requests.specs.Variables.{Variables}
use Rattle.ob_output.specs.Gathering.{Gathers}
use Rattle.ob_output.specs.Writing.{AppendsFront}
use Rattle.ob_output.proofs.Gathered.{gathers_nothing, gathers_more, gathers_front, gathers_out, gathers_out_front}
use Rattle.ob_standard.specs.Standard.{StandardKind, standard}
use Rattle.ob_effects.specs.Machine.{Space, counts_of}
use Rattle.ob_effects.specs.Effects.{MakesStep, notice_text, IsDone}
use Rattle.ob_effects.specs.declared.session.Session.{Session}
use Rattle.ob_effects.specs.Kept.{AreWaiting, IsFirst, variables_of, space_of}
use Rattle.ob_effects.specs.Waiting.{Steps, variable_of, IsEvent, answer_text, variables_answered}
use Rattle.ob_effects.proofs.Awaiting.{first_waiting, answered_waiting, unanswered_waiting, carried_waiting, stopped_waiting, wanting_sound, stopped_sound}
use Rattle.ob_output.specs.Printed.{output_line}
use Rattle.ob_scripts.specs.Shown.{Entries, AreOfSeat0, EndsWanting, Shows, PlaysForms, Plays, PlaysOn, PlaysFirst, PlaysTo, PlaysPartTo}
use Rattle.ob_scripts.proofs.Totals.{entered_seat, shows_total}
use Rattle.ob_scripts.specs.Running.{outcome_text, outcome_end, GathersRun}
use Rattle.ob_scripts.proofs.Finals.{finals_total, wanting_run, stopped_run}

-- the rest of the script is after the lines that were run, which show so much: whatever forms come,
-- what they show from here on is after it
pub record RunsBehind (script rest : List ℕ) (number : ℕ) (variables : Variables) (s : Space) (done : Forms) (so_far : List ℕ) (count : ℕ) : Type 0 where
  pub read : BeginsWithForms script done rest
  pub sound : IsSound s
  pub tickets : List ℕ
  pub waiting : AreWaiting s variables tickets
  pub onward : (forms : Forms) (entries : Entries) (t : Space) (output : List ℕ) (end : Ending) → RunFrom standard s count entries t → AreOfSeat0 entries
      → Shows (number + 1) forms variables s (map step_of entries) output end → PlaysForms (done ++ forms) (so_far ++ output) end

-- so it does, and what they show was gathered: of it a block has the rest
pub record StandsBehind (old new : Option (List ℕ)) (has script rest : List ℕ) (number : ℕ) (variables : Variables) (s : Space) : Type 0 where
  pub done : Forms
  pub so_far : List ℕ
  pub count : ℕ
  pub runs : RunsBehind script rest number variables s done so_far count
  pub gathered : Gathers old new [] so_far has

-- at first nothing was run and gathered
pub stands_first : (old : Option (List ℕ)) (has script : List ℕ) (session : Session) → has ≡ [] → IsFirst session → StandsBehind old old has script script 0 (variables_of session) (space_of session)
stands_first old has script session none (w, (first, f, e)) = record {
  done = [];
  so_far = [];
  count = 0;
  runs = record {
    read = refl;
    sound = subst IsSound (sym e) (opening_sound first);
    tickets = [];
    waiting = subst (λ x. AreWaiting x (variables_of session) []) (sym e) (subst (λ x. AreWaiting (opening first) x []) (sym w) (first_waiting (opening first)));
    onward = λ forms entries t output end run seats shows.
        let P : Space → Type 0 = λ x. RunFrom standard x 0 entries t in
        let Q : Space → Type 0 = λ x. Shows 1 forms (variables_of session) x (map step_of entries) output end in
        let R : Variables → Type 0 = λ x. Shows 1 forms x (opening first) (map step_of entries) output end in
        (map step_of entries, (first, entries, t, f, subst P e run, seats, refl, subst R w (subst Q e shows)));
  };
  gathered = let G : List ℕ → Type 0 = λ x. Gathers old old [] [] x in subst G (sym none) (gathers_nothing old []);
}

-- the steps of a line that goes on
abbrev own_steps : (form : Option (Form (List ℕ))) (variables variables' : Variables) (s s' : Space) (o : LineOutcome) → IsDone form variables s o variables' s' → Steps
own_steps None variables variables' s s' o d = []
own_steps (Some Nothing) variables variables' s s' o d = []
own_steps (Some Stat) variables variables' s s' o d = []
own_steps (Some (Asks process request)) variables variables' s s' outcome.Idle d = []
own_steps (Some (Asks process request)) variables variables' s s' (outcome.Counted counts) d = []
own_steps (Some (Asks process request)) variables variables' s s' (outcome.Replied reply) ((c, steps, command, chain), w) = steps
own_steps (Some (Asks process request)) variables variables' s s' outcome.Pending d = []
own_steps (Some (Asks process request)) variables variables' s s' (outcome.Told notice) d = []
own_steps (Some (Asks process request)) variables variables' s s' outcome.NoLine d = []
own_steps (Some (Asks process request)) variables variables' s s' outcome.NoMemory d = []
own_steps (Some (Waits process line)) variables variables' s s' outcome.Idle d = []
own_steps (Some (Waits process line)) variables variables' s s' (outcome.Counted counts) d = []
own_steps (Some (Waits process line)) variables variables' s s' (outcome.Replied reply) (makes, ((event, asked, step), w)) = (event, Done reply) ∷ []
own_steps (Some (Waits process line)) variables variables' s s' outcome.Pending (makes, (n, ((event, asked, step), w))) = (event, Ticket n) ∷ []
own_steps (Some (Waits process line)) variables variables' s s' (outcome.Told notice) d = []
own_steps (Some (Waits process line)) variables variables' s s' outcome.NoLine d = []
own_steps (Some (Waits process line)) variables variables' s s' outcome.NoMemory d = []

-- What a line that goes on leaves: a sound state, opens that wait under variables, and a run that goes on after its steps,
-- with the rest of what is shown.
record GoesOn (form : Option (Form (List ℕ))) (number : ℕ) (variables variables' : Variables) (s s' : Space) (o : LineOutcome) (own : Steps) : Type 0 where
  sound : IsSound s'
  tickets : List ℕ
  waiting : AreWaiting s' variables' tickets
  run : (count : ℕ) (entries : Entries) (t : Space) → RunFrom standard s' (count_behind count own) entries t → RunFrom standard s count (entered count own ++ entries) t
  shows : (forms : Forms) (steps : Steps) (output : List ℕ) (end : Ending) → Shows (number + 1) forms variables' s' steps output end
      → Shows number (form ∷ forms) variables s (own ++ steps) (outcome_text number o ++ output) end

-- a line that leaves the variables and the state
stays : (form : Option (Form (List ℕ))) (number : ℕ) (variables variables' : Variables) (s s' : Space) (o : LineOutcome) (tickets : List ℕ) → variables' ≡ variables → s' ≡ s → IsSound s → AreWaiting s variables tickets
    → ((forms : Forms) (steps : Steps) (output : List ℕ) (end : Ending) → Shows (number + 1) forms variables s steps output end → Shows number (form ∷ forms) variables s steps (outcome_text number o ++ output) end)
    → GoesOn form number variables variables' s s' o []
stays form number variables variables' s s' o tickets w e sound waiting shows = record {
  sound = subst IsSound (sym e) sound;
  tickets = tickets;
  waiting = subst (λ x. AreWaiting x variables' tickets) (sym e) (subst (λ x. AreWaiting s x tickets) (sym w) waiting);
  run = λ count entries t run. subst (λ x. RunFrom standard x count entries t) e run;
  shows = λ forms steps output end shown. shows forms steps output end
      (subst (λ x. Shows (number + 1) forms variables x steps output end) e (subst (λ x. Shows (number + 1) forms x s' steps output end) w shown));
}

-- a line of an open that waits, which made a step
steps_on : (process : List ℕ) (line : PendingForm (List ℕ)) (number : ℕ) (variables variables' : Variables) (s s' : Space) (o : LineOutcome) (a : Answer) (tickets : List ℕ) → IsSound s → AreWaiting s variables tickets
    → MakesStep line (variables.processes process) variables → (event : Event StandardKind) → IsEvent line variables (variables.processes process) event → Step standard s event a s'
    → variables' ≡ variables_answered variables (variables.processes process) (variable_of line) a → outcome_text number o ≡ output_line number (answer_text a)
    → GoesOn (Some (Waits process line)) number variables variables' s s' o ((event, a) ∷ [])
steps_on process line number variables variables' s s' o a tickets sound waiting makes event asked step w told =
    let p = variables.processes process in
    let left = carried_waiting s s' variables p line event a tickets sound makes asked step waiting in
    record {
      sound = step_sound standard s s' event a sound step;
      tickets = left.0;
      waiting = subst (λ x. AreWaiting s' x left.0) (sym w) left.1;
      run = λ count entries t run. (s', refl, step, run);
      shows = λ forms steps output end shown.
          inr (inl (event, a, steps, output, s', makes, asked, step, refl, ap (λ x. x ++ output) told, subst (λ x. Shows (number + 1) forms x s' steps output end) w shown));
    }

-- a line that goes on
goes : (form : Option (Form (List ℕ))) (number : ℕ) (variables variables' : Variables) (s s' : Space) (o : LineOutcome) (tickets : List ℕ) → IsSound s → AreWaiting s variables tickets
    → (d : IsDone form variables s o variables' s') → None ≡ outcome_end number o → GoesOn form number variables variables' s s' o (own_steps form variables variables' s s' o d)
goes None number variables variables' s s' o tickets sound waiting (is, w, e) n =
    let bad : None ≡ Some (ending.BadLine number) = n ∙ ap (outcome_end number) is in cc
goes (Some Nothing) number variables variables' s s' o tickets sound waiting (is, w, e) n =
    subst (λ x. GoesOn (Some Nothing) number variables variables' s s' x []) (sym is)
    (stays (Some Nothing) number variables variables' s s' outcome.Idle tickets w e sound waiting (λ forms steps output end shown. shown))
goes (Some Stat) number variables variables' s s' o tickets sound waiting (is, w, e) n =
    subst (λ x. GoesOn (Some Stat) number variables variables' s s' x []) (sym is)
    (stays (Some Stat) number variables variables' s s' (outcome.Counted (counts_of s)) tickets w e sound waiting (λ forms steps output end shown. (output, refl, shown)))
goes (Some (Asks process request)) number variables variables' s s' (outcome.Replied reply) tickets sound waiting ((c, own, command, chain), w) n =
    let p = variables.processes process in
    record {
      sound = completes_sound standard (Start p c) own s s' reply sound chain;
      tickets = tickets;
      waiting = subst (λ x. AreWaiting s' x tickets) (sym w) (answered_waiting s s' variables p request c own reply tickets sound chain waiting);
      run = λ count entries t run. completes_run standard (Start p c) own s s' reply count entries t chain run;
      shows = λ forms steps output end shown.
          inl (c, own, steps, output, reply, s', command, chain, refl, refl, subst (λ x. Shows (number + 1) forms x s' steps output end) w shown);
    }
goes (Some (Asks process request)) number variables variables' s s' outcome.Idle tickets sound waiting d n = absurd d
goes (Some (Asks process request)) number variables variables' s s' (outcome.Counted counts) tickets sound waiting d n = absurd d
goes (Some (Asks process request)) number variables variables' s s' outcome.Pending tickets sound waiting d n = absurd d
goes (Some (Asks process request)) number variables variables' s s' (outcome.Told notice) tickets sound waiting d n = absurd d
goes (Some (Asks process request)) number variables variables' s s' outcome.NoLine tickets sound waiting d n = absurd d
goes (Some (Asks process request)) number variables variables' s s' outcome.NoMemory tickets sound waiting d n = cc
goes (Some (Waits process line)) number variables variables' s s' (outcome.Replied reply) tickets sound waiting (makes, ((event, asked, step), w)) n =
    steps_on process line number variables variables' s s' (outcome.Replied reply) (Done reply) tickets sound waiting makes event asked step w refl
goes (Some (Waits process line)) number variables variables' s s' outcome.Pending tickets sound waiting (makes, (m, ((event, asked, step), w))) n =
    steps_on process line number variables variables' s s' outcome.Pending (Ticket m) tickets sound waiting makes event asked step w refl
goes (Some (Waits process line)) number variables variables' s s' (outcome.Told notice) tickets sound waiting (told, w, e) n =
    stays (Some (Waits process line)) number variables variables' s s' (outcome.Told notice) tickets w e sound waiting
    (λ forms steps output end shown. inl (notice_text notice, output, told, refl, shown))
goes (Some (Waits process line)) number variables variables' s s' outcome.Idle tickets sound waiting d n = absurd d
goes (Some (Waits process line)) number variables variables' s s' (outcome.Counted counts) tickets sound waiting d n = absurd d
goes (Some (Waits process line)) number variables variables' s s' outcome.NoLine tickets sound waiting d n = absurd d
goes (Some (Waits process line)) number variables variables' s s' outcome.NoMemory tickets sound waiting d n = cc

-- how many entries there are after a line
abbrev pub count_after : (count : ℕ) (form : Option (Form (List ℕ))) (variables variables' : Variables) (s s' : Space) (o : LineOutcome) → IsDone form variables s o variables' s' → ℕ
count_after count form variables variables' s s' o d = count_behind count (own_steps form variables variables' s s' o d)

-- it is after what was shown before it
runs_more : (script rest behind : List ℕ) (form : Option (Form (List ℕ))) (number : ℕ) (variables variables' : Variables) (s s' : Space) (o : LineOutcome) (done : Forms) (so_far : List ℕ) (count : ℕ)
    → RunsBehind script rest number variables s done so_far count → BeginsWithLine rest form behind → (d : IsDone form variables s o variables' s') → None ≡ outcome_end (number + 1) o
    → RunsBehind script behind (number + 1) variables' s' (done ++ form ∷ []) (so_far ++ outcome_text (number + 1) o) (count_after count form variables variables' s s' o d)
runs_more script rest behind form number variables variables' s s' o done so_far count b e d n =
    let own = own_steps form variables variables' s s' o d in
    let on = goes form (number + 1) variables variables' s s' o b.tickets b.sound b.waiting d n in
    record {
      read = begins_more script rest behind done form b.read e;
      sound = on.sound;
      tickets = on.tickets;
      waiting = on.waiting;
      onward = λ forms entries t output end run seats shows.
          rw (append_assoc done (form ∷ []) forms, append_assoc so_far (outcome_text (number + 1) o) output)
          (b.onward (form ∷ forms) (entered count own ++ entries) t (outcome_text (number + 1) o ++ output) end (on.run count entries t run) (entered_seat count own entries seats)
          (subst (λ x. Shows (number + 1) (form ∷ forms) variables s x (outcome_text (number + 1) o ++ output) end) (sym (entered_steps count own entries))
          (on.shows forms (map step_of entries) output end shows)));
    }

-- what a line shows that ends the run, whatever lines are after it
record Stops (form : Option (Form (List ℕ))) (number : ℕ) (variables : Variables) (s : Space) (o : LineOutcome) (end : Ending) (count : ℕ) : Type 0 where
  entries : Entries
  last : Space
  run : RunFrom standard s count entries last
  seats : AreOfSeat0 entries
  shows : (later : Forms) → Shows number (form ∷ later) variables s (map step_of entries) (outcome_text number o) end

-- a line that found no memory after these steps; what waits is given up
stops_wanting : (form : Option (Form (List ℕ))) (number : ℕ) (variables variables' : Variables) (s s' : Space) (end : Ending) (count : ℕ) (own : Steps) (left : List ℕ) → IsSound s' → AreWaiting s' variables' left
    → ((entries : Entries) (t : Space) → RunFrom standard s' (count_behind count own) entries t → RunFrom standard s count (entered count own ++ entries) t)
    → end ≡ ending.NoMemoryAt number
    → ((later : Forms) (behind : Steps) → EndsWanting number variables' s' behind (outcome_text number outcome.NoMemory) end → Shows number (form ∷ later) variables s (own ++ behind) (outcome_text number outcome.NoMemory) end)
    → Stops form number variables s outcome.NoMemory end count
stops_wanting form number variables variables' s s' end count own left sound waiting run same shows =
    let final = finals_total s' variables' left (count_behind count own) sound waiting in
    record {
      entries = entered count own ++ final.0;
      last = final.1;
      run = run final.0 final.1 final.2;
      seats = entered_seat count own final.0 final.3;
      shows = λ later.
          subst (λ x. Shows number (form ∷ later) variables s x (outcome_text number outcome.NoMemory) end) (sym (entered_steps count own final.0))
          (shows later (map step_of final.0) (refl, same, final.4));
    }

stops : (form : Option (Form (List ℕ))) (number : ℕ) (variables variables' : Variables) (s s' : Space) (o : LineOutcome) (end : Ending) (count : ℕ) (tickets : List ℕ) → IsSound s → AreWaiting s variables tickets
    → IsDone form variables s o variables' s' → Some end ≡ outcome_end number o → Stops form number variables s o end count
stops None number variables variables' s s' o end count tickets sound waiting (is, w, e) n =
    let same : Some end ≡ Some (ending.BadLine number) = n ∙ ap (outcome_end number) is in
    let one : end ≡ ending.BadLine number = cc in
    let final = finals_total s variables tickets count sound waiting in
    subst (λ x. Stops None number variables s x end count) (sym is)
    (record { entries = final.0; last = final.1; run = final.2; seats = final.3; shows = λ later. (final.4, refl, one) })
stops (Some Nothing) number variables variables' s s' o end count tickets sound waiting (is, w, e) n =
    let bad : Some end ≡ None = n ∙ ap (outcome_end number) is in cc
stops (Some Stat) number variables variables' s s' o end count tickets sound waiting (is, w, e) n =
    let bad : Some end ≡ None = n ∙ ap (outcome_end number) is in cc
stops (Some (Asks process request)) number variables variables' s s' outcome.NoMemory end count tickets sound waiting ((steps, wants), w) n =
    let one : end ≡ ending.NoMemoryAt number = cc in
    let p = variables.processes process in
    stops_wanting (Some (Asks process request)) number variables variables s s' end count steps tickets (wanting_sound s s' variables p request steps sound wants)
    (unanswered_waiting s s' variables p request steps tickets sound wants waiting) (wanting_run s s' variables p request steps count wants) one
    (λ later behind ends. inr (steps, behind, s', wants, refl, ends))
stops (Some (Asks process request)) number variables variables' s s' outcome.Idle end count tickets sound waiting d n = absurd d
stops (Some (Asks process request)) number variables variables' s s' (outcome.Counted counts) end count tickets sound waiting d n = absurd d
stops (Some (Asks process request)) number variables variables' s s' (outcome.Replied reply) end count tickets sound waiting d n = cc
stops (Some (Asks process request)) number variables variables' s s' outcome.Pending end count tickets sound waiting d n = absurd d
stops (Some (Asks process request)) number variables variables' s s' (outcome.Told notice) end count tickets sound waiting d n = absurd d
stops (Some (Asks process request)) number variables variables' s s' outcome.NoLine end count tickets sound waiting d n = absurd d
stops (Some (Waits process line)) number variables variables' s s' outcome.NoMemory end count tickets sound waiting (makes, (steps, none)) n =
    let one : end ≡ ending.NoMemoryAt number = cc in
    let p = variables.processes process in
    let left = stopped_waiting s s' variables variables' p line steps tickets sound makes none waiting in
    stops_wanting (Some (Waits process line)) number variables variables' s s' end count steps left.0 (stopped_sound s s' variables variables' p line steps sound none) left.1
    (stopped_run s s' variables variables' p line steps count none) one
    (λ later behind ends. inr (inr (steps, behind, s', variables', makes, none, refl, ends)))
stops (Some (Waits process line)) number variables variables' s s' outcome.Idle end count tickets sound waiting d n = absurd d
stops (Some (Waits process line)) number variables variables' s s' (outcome.Counted counts) end count tickets sound waiting d n = absurd d
stops (Some (Waits process line)) number variables variables' s s' (outcome.Replied reply) end count tickets sound waiting d n = cc
stops (Some (Waits process line)) number variables variables' s s' outcome.Pending end count tickets sound waiting d n = cc
stops (Some (Waits process line)) number variables variables' s s' (outcome.Told notice) end count tickets sound waiting d n = cc
stops (Some (Waits process line)) number variables variables' s s' outcome.NoLine end count tickets sound waiting d n = absurd d

-- a line that ends the run, whatever lines are after it
runs_end : (script rest : List ℕ) (form : Option (Form (List ℕ))) (number : ℕ) (variables variables' : Variables) (s s' : Space) (o : LineOutcome) (end : Ending) (done : Forms) (so_far : List ℕ) (count : ℕ)
    → RunsBehind script rest number variables s done so_far count → IsDone form variables s o variables' s' → Some end ≡ outcome_end (number + 1) o
    → (later : Forms) → PlaysForms (done ++ (form ∷ later)) (so_far ++ outcome_text (number + 1) o) end
runs_end script rest form number variables variables' s s' o end done so_far count b d n later =
    let stop = stops form (number + 1) variables variables' s s' o end count b.tickets b.sound b.waiting d n in
    b.onward (form ∷ later) stop.entries stop.last (outcome_text (number + 1) o) end stop.run stop.seats (stop.shows later)

-- the lines that were run, where none ended the run, and where the last one did
plays_done : (script rest : List ℕ) (number : ℕ) (variables : Variables) (s : Space) (done : Forms) (so_far : List ℕ) (count : ℕ) → RunsBehind script rest number variables s done so_far count
    → PlaysForms done so_far ending.Done
plays_done script rest number variables s done so_far count b =
    let final = finals_total s variables b.tickets count b.sound b.waiting in
    let P : Forms → Type 0 = λ x. PlaysForms x (so_far ++ []) ending.Done in
    let Q : List ℕ → Type 0 = λ x. PlaysForms done x ending.Done in
    subst Q (append-nil so_far) (subst P (append-nil done) (b.onward [] final.0 final.1 [] ending.Done final.2 final.3 (final.4, refl, refl)))

first_done : (script rest : List ℕ) (number : ℕ) (variables : Variables) (s : Space) (done : Forms) (so_far : List ℕ) (count : ℕ) → RunsBehind script rest number variables s done so_far count
    → PlaysFirst script so_far ending.Done
first_done script rest number variables s done so_far count b =
    (done, rest, b.read, plays_done script rest number variables s done so_far count b, λ all whole. on all (goes_on script rest done all b.read whole))
  where
    on : (all : Forms) → (later : Forms) × (all ≡ done ++ later) × HaveTexts later → PlaysOn all so_far ending.Done
    on all (later, e, texts) =
        let rest = shows_total later (number + 1) variables s count b.tickets texts b.sound b.waiting in
        let P : Forms → Type 0 = λ x. PlaysForms x (so_far ++ rest.2) rest.3 in
        (rest.2, rest.3, rest.4, subst P (sym e) (b.onward later rest.0 rest.1 rest.2 rest.3 rest.5 rest.6 rest.7))

-- all lines play what those play of which the last ended the run
on_ended : (all : Forms) (output : List ℕ) (number : ℕ) (o : LineOutcome) (end : Ending) → Some end ≡ outcome_end number o → PlaysForms all output end → PlaysOn all output end
on_ended all output number o (ending.BadLine line) n h = h
on_ended all output number o (ending.NoMemoryAt line) n h = h
on_ended all output number outcome.Idle ending.Done n h = cc
on_ended all output number (outcome.Counted counts) ending.Done n h = cc
on_ended all output number (outcome.Replied reply) ending.Done n h = cc
on_ended all output number outcome.Pending ending.Done n h = cc
on_ended all output number (outcome.Told notice) ending.Done n h = cc
on_ended all output number outcome.NoLine ending.Done n h = cc
on_ended all output number outcome.NoMemory ending.Done n h = cc

first_ended : (script rest behind : List ℕ) (form : Option (Form (List ℕ))) (number : ℕ) (variables variables' : Variables) (s s' : Space) (o : LineOutcome) (end : Ending) (done : Forms) (so_far : List ℕ) (count : ℕ)
    → RunsBehind script rest number variables s done so_far count → BeginsWithLine rest form behind → IsDone form variables s o variables' s' → Some end ≡ outcome_end (number + 1) o
    → PlaysFirst script (so_far ++ outcome_text (number + 1) o) end
first_ended script rest behind form number variables variables' s s' o end done so_far count b e d n = (
  done ++ form ∷ [],
  behind,
  read,
  runs_end script rest form number variables variables' s s' o end done so_far count b d n [],
  λ all whole. on all (goes_on script behind (done ++ form ∷ []) all read whole),
)
  where
    read : BeginsWithForms script (done ++ form ∷ []) behind
    read = begins_more script rest behind done form b.read e

    on : (all : Forms) → (later : Forms) × (all ≡ (done ++ form ∷ []) ++ later) × HaveTexts later → PlaysOn all (so_far ++ outcome_text (number + 1) o) end
    on all (later, e, texts) =
        let P : Forms → Type 0 = λ x. PlaysForms x (so_far ++ outcome_text (number + 1) o) end in
        on_ended all (so_far ++ outcome_text (number + 1) o) (number + 1) o end n
        (subst P (sym (e ∙ append_assoc done (form ∷ []) later)) (runs_end script rest form number variables variables' s s' o end done so_far count b d n later))

-- what lines of a script play, it plays
as_plays : (script : List ℕ) (forms : Forms) (rest output : List ℕ) (end : Ending) → BeginsWithForms script forms rest → (end ≡ ending.Done → rest ≡ []) → PlaysForms forms output end
    → Plays script output end
as_plays script forms rest output end read whole (steps, plays) = (steps, (forms, rest, read, whole, plays))

-- the last line was run
pub stands_last : (old new : Option (List ℕ)) (has script rest : List ℕ) (number : ℕ) (variables : Variables) (s : Space) → StandsBehind old new has script rest number variables s
    → rest ≡ [] → GathersRun old new script has ending.Done
stands_last old new has script rest number variables s b none = (
  b.so_far,
  as_plays script b.done rest b.so_far ending.Done b.runs.read (λ _. none) (plays_done script rest number variables s b.done b.so_far b.count b.runs),
  first_done script rest number variables s b.done b.so_far b.count b.runs,
  b.gathered,
)

-- a line that goes on
pub stands_more : (old mid new : Option (List ℕ)) (had has script rest behind : List ℕ) (form : Option (Form (List ℕ))) (number : ℕ) (variables variables' : Variables) (s s' : Space) (o : LineOutcome)
    → StandsBehind old mid had script rest number variables s → BeginsWithLine rest form behind → IsDone form variables s o variables' s'
    → None ≡ outcome_end (number + 1) o → Gathers mid new had (outcome_text (number + 1) o) has → StandsBehind old new has script behind (number + 1) variables' s'
stands_more old mid new had has script rest behind form number variables variables' s s' o b e d n a = record {
  done = b.done ++ form ∷ [];
  so_far = b.so_far ++ outcome_text (number + 1) o;
  count = count_after b.count form variables variables' s s' o d;
  runs = runs_more script rest behind form number variables variables' s s' o b.done b.so_far b.count b.runs e d n;
  gathered = gathers_more old mid new [] had has b.so_far (outcome_text (number + 1) o) b.gathered a;
}

-- a line that ends the run
pub stands_end : (old mid new : Option (List ℕ)) (had has script rest behind : List ℕ) (form : Option (Form (List ℕ))) (number : ℕ) (variables variables' : Variables) (s s' : Space) (o : LineOutcome) (end : Ending)
    → StandsBehind old mid had script rest number variables s → BeginsWithLine rest form behind → IsDone form variables s o variables' s'
    → Some end ≡ outcome_end (number + 1) o → Gathers mid new had (outcome_text (number + 1) o) has → GathersRun old new script has end
stands_end old mid new had has script rest behind form number variables variables' s s' o end b e d n a =
    let first : PlaysFirst script (b.so_far ++ outcome_text (number + 1) o) end =
    first_ended script rest behind form number variables variables' s s' o end b.done b.so_far b.count b.runs e d n in (
      b.so_far ++ outcome_text (number + 1) o,
      as_plays script (b.done ++ form ∷ []) behind (b.so_far ++ outcome_text (number + 1) o) end (begins_more script rest behind b.done form b.runs.read e) (not_done o n)
          (runs_end script rest form number variables variables' s s' o end b.done b.so_far b.count b.runs d n []),
      first,
      gathers_more old mid new [] had has b.so_far (outcome_text (number + 1) o) b.gathered a,
    )
  where
    not_done : (o : LineOutcome) → Some end ≡ outcome_end (number + 1) o → end ≡ ending.Done → behind ≡ []
    not_done outcome.Idle n all = cc
    not_done (outcome.Counted counts) n all = cc
    not_done (outcome.Replied reply) n all = cc
    not_done outcome.Pending n all = cc
    not_done (outcome.Told notice) n all = cc
    not_done outcome.NoLine n all = cc
    not_done outcome.NoMemory n all = cc

-- a beginning of what lines show was written
part_of : (old new : Option (List ℕ)) (script output : List ℕ) (end : Ending) → PlaysFirst script output end → AppendsFront old new output → PlaysPartTo old new script
part_of old new script output end first f =
    let P : List ℕ → Type 0 = λ x. PlaysFirst script x end in
    (f.front, (f.back, end, f.unwritten, subst P f.joined first), f.written)

-- a line at which a write failed
pub stands_part : (old mid new : Option (List ℕ)) (had script rest behind : List ℕ) (form : Option (Form (List ℕ))) (number : ℕ) (variables variables' : Variables) (s s' : Space) (o : LineOutcome)
    → StandsBehind old mid had script rest number variables s → BeginsWithLine rest form behind → IsDone form variables s o variables' s'
    → AppendsFront mid new (had ++ outcome_text (number + 1) o) → PlaysPartTo old new script
stands_part old mid new had script rest behind form number variables variables' s s' o b e d f = go (outcome_end (number + 1) o) refl
  where
    written : AppendsFront old new (b.so_far ++ outcome_text (number + 1) o)
    written = gathers_front old mid new [] had b.so_far (outcome_text (number + 1) o) b.gathered f

    go : (end : Option Ending) → end ≡ outcome_end (number + 1) o → PlaysPartTo old new script
    go None n =
        part_of old new script (b.so_far ++ outcome_text (number + 1) o) ending.Done
        (first_done script behind (number + 1) variables' s' (b.done ++ form ∷ []) (b.so_far ++ outcome_text (number + 1) o) (count_after b.count form variables variables' s s' o d)
        (runs_more script rest behind form number variables variables' s s' o b.done b.so_far b.count b.runs e d n))
        written
    go (Some end) n =
        part_of old new script (b.so_far ++ outcome_text (number + 1) o) end
        (first_ended script rest behind form number variables variables' s s' o end b.done b.so_far b.count b.runs e d n) written

-- the end of a run, where the block was written, and where that write failed
pub run_written : (old mid new : Option (List ℕ)) (script has : List ℕ) (end : Ending) → GathersRun old mid script has end → Appends mid new has → PlaysTo old new script end
run_written old mid new script has end (output, plays, first, g) a = (output, plays, gathers_out old mid new output has g a)

pub run_part : (old mid new : Option (List ℕ)) (script has : List ℕ) (end : Ending) → GathersRun old mid script has end → AppendsFront mid new has → PlaysPartTo old new script
run_part old mid new script has end (output, plays, first, g) f = part_of old new script output end first (gathers_out_front old mid new output has g f)
