-- Two runs of the same lines go side by side: their states and variables are alike, and so are their replies.
use Rattle.std.specs.Option.{option_map}
use Rattle.std.specs.Str.{bytes_eq}
use Rattle.std.proofs.Common.{◌≡◌, ◌≢◌, ◌∙◌, ◌⊎◌, inl, inr, ℕ, ◌+◌, ◌≤◌, ◌<◌, ◌==◌, Bool, true, false, not, cond, List, [], ◌∷◌, ◌++◌, length, take, drop, Some, None, refl, sym, ap, subst, arith, append-nil, length-append}
use Rattle.std.proofs.lemmas.Bool.{cases_lt}
use Rattle.std.proofs.lemmas.List.{length-map, take-append-drop}
use Rattle.ob_model.specs.declared.command.Command.{Command}
use Rattle.ob_model.specs.declared.command.Command.TheVariants as command
use Rattle.ob_model.specs.declared.reply.Answer.{Answer}
use Rattle.ob_model.specs.declared.reply.Answer.TheVariants.{Done, Ticket}
use Rattle.ob_model.specs.declared.reply.Event.{Event}
use Rattle.ob_model.specs.declared.reply.Event.TheVariants.{Start, Resume, Abandon}
use Rattle.ob_model.specs.declared.reply.ParseRun.{ParseRun}
use Rattle.ob_model.specs.declared.reply.ParseRun.TheVariants as run
use Rattle.ob_model.specs.declared.reply.Given.{Given}
use Rattle.ob_model.specs.declared.reply.Given.TheVariants as given
use Rattle.ob_model.specs.declared.reply.Reply.{Reply}
use Rattle.ob_model.specs.Alike.{AreAlike, AreAlikeAnswers, LeadOn, HoldOn, unvalued, unvalued_answer, unvalued_handle, unvalued_given}
use Rattle.ob_model.specs.Opening.{opening}
use Rattle.ob_model.specs.Sound.{IsSound}
use Rattle.ob_model.specs.Step.{Step}
use Rattle.ob_model.proofs.Soundness.{opening_sound}
use Rattle.ob_model.proofs.Steps.{step_sound}
use Rattle.ob_runner.specs.Completes.{HasRun, Completes, FindMemory, FindsMemory as StepFindsMemory}
use Rattle.ob_runner.proofs.AlikeChains.{GoOn, completes_alike, resume_alike, abandon_alike, open_alike}
use Rattle.ob_runner.proofs.Chains.{completes_sound}
use Rattle.ob_runner.proofs.Fewer.{WaitsFor}
use Rattle.ob_runner.specs.Opens.{is_open}
use Rattle.ob_standard.specs.Standard.{StandardKind, Standard, standard, IsFresh}
use Rattle.ob_lines.specs.declared.form.Form.TheVariants.{Nothing, Stat, Asks, Waits}
use Rattle.ob_lines.specs.declared.pending.PendingForm.{PendingForm}
use Rattle.ob_lines.specs.declared.pending.PendingForm.TheVariants as pending
use Rattle.ob_lines.specs.declared.request.Request.{Request}
use Rattle.ob_lines.specs.declared.request.Request.TheVariants.{CreateDirectory, CreateShadowed, CreateLink, CreateObject, OpenDirectory, OpenLink, OpenObject, Close, QueryLink, QueryName, QueryDirectory, Duplicate, MakeTemporary, MakePermanent, SetDeviceMap, NewProcess, ExitProcess}
use Rattle.ob_lines.specs.Script.{Forms, BeginsWithForms}
use Rattle.ob_parts.specs.Parts.{text_of}
use Rattle.ob_parts.proofs.Spelled.{spells_alike}
use Rattle.ob_lines.proofs.Scripted.{goes_on, scripts_alike as scripts_read_alike}
use Rattle.ob_output.specs.Printed.{output_line, status_text, given_text, reply_text, counts_text}
use Rattle.ob_requests.specs.Variables.{Variables, first_variables, with_variable, with_ticket}
use Rattle.ob_requests.specs.Commands.{IsCommand, variables_after, root_of, kind_meant, given_handle}
use Rattle.ob_requests.specs.Alike.{AreAlikeValues, AreAlikeVariables, unset, set}
use Rattle.ob_requests.proofs.Alike.{asks_alike}
use Rattle.ob_requests.proofs.AlikeVariables.{replies_alike, variables_stay_alike, sets}
use Rattle.ob_scripts.specs.declared.run.Ending.{Ending}
use Rattle.ob_scripts.specs.declared.run.Ending.TheVariants as ending
use Rattle.ob_effects.specs.Machine.{Space, counts_of}
use Rattle.ob_effects.specs.Effects.{MakesStep}
use Rattle.ob_effects.specs.Kept.{WaitsUnder, AreWaiting}
use Rattle.ob_effects.specs.Waiting.{Steps, variable_of, is_waiting, told_instead, IsEvent, answer_text, variables_answered}
use Rattle.ob_effects.proofs.Awaiting.{answered_waiting, carried_waiting, drop_some, end_some, first_waiting, waits_for_process}
use Rattle.ob_scripts.specs.Shown.{Shows, PlaysFormsBy, FindsMemory}
use Rattle.ob_scripts.specs.Alike.{FormsShowTheSame, ScriptsShowTheSame}

-- two fresh sets are the same
fresh_alike : (a b : Standard) → IsFresh a → IsFresh b → a ≡ b
fresh_alike a b f h = λ i. record a {
  opens = (f.no_opens ∙ sym h.no_opens) i;
  closes = (f.no_closes ∙ sym h.no_closes) i;
  deletes = (f.no_deletes ∙ sym h.no_deletes) i;
}

-- what is printed doesn't read values
given_text_alike : (thing : Given) → given_text (unvalued_given thing) ≡ given_text thing
given_text_alike given.Nothing = refl
given_text_alike (given.Handle value) = refl
given_text_alike (given.Text text) = refl
given_text_alike (given.Process number values) = refl
given_text_alike (given.Page entries context) = refl

text_alike : (a b : Reply) → (a.status ≡ b.status) × (unvalued_given a.given ≡ unvalued_given b.given) → reply_text a ≡ reply_text b
text_alike a b (status, things) = λ i. status_text (status i) ++ (sym (given_text_alike a.given) ∙ ap given_text things ∙ given_text_alike b.given) i

counts_valued : (s : Space) → counts_of (unvalued s) ≡ counts_of s
counts_valued s = λ i. record (counts_of s) { handles = length-map s.handles unvalued_handle i }

counts_alike : (s t : Space) → AreAlike s t → counts_of s ≡ counts_of t
counts_alike s t alike = sym (counts_valued s) ∙ ap counts_of alike ∙ counts_valued t

-- an ending for want of memory finds none
no_memory : {Goal : Type 0} (end : Ending) (number : ℕ) → FindsMemory end → end ≡ ending.NoMemoryAt number → Goal
no_memory end number finds e = absurd (subst FindsMemory e finds)

-- at first no variable is set but `p1`, and the variables of both runs are the same
first_alike : (s t : Space) → AreAlikeVariables s t first_variables first_variables
first_alike s t = record {
  processes = λ variable. refl;
  values = λ p variable. unset refl refl;
  contexts = λ p variable. refl;
  tickets = λ p variable. refl;
  apart = λ p a b e. inl refl;
  apart_too = λ p a b e. inl refl;
}

-- an open that waited, and was answered after its parses, sets its variable to what is given
opened_alike : (s t u v : Space) (p : ℕ) (request : Request (List ℕ)) (variables others : Variables) (c : Command StandardKind) (a b : Reply) → AreAlikeVariables s t variables others → IsCommand request variables p c
    → is_open c ≡ true → LeadOn s t p p (Done a) (Done b) u v → HoldOn s (λ q value. ⊥) p (Done a) u → HoldOn t (λ q value. ⊥) p (Done b) v → unvalued_given a.given ≡ unvalued_given b.given
    → AreAlikeVariables u v (variables_after request p a variables) (variables_after request p b others)
opened_alike s t u v p (OpenDirectory name attrs variable) variables others c a b before f opens lead hold second same =
    sets s t u v p p a b (λ q value. ⊥) lead hold same variables others before (λ q value. ⊥) second (λ q value closed. closed) variable
opened_alike s t u v p (OpenLink name attrs variable) variables others c a b before f opens lead hold second same =
    sets s t u v p p a b (λ q value. ⊥) lead hold same variables others before (λ q value. ⊥) second (λ q value closed. closed) variable
opened_alike s t u v p (OpenObject want name attrs variable) variables others c a b before f opens lead hold second same =
    sets s t u v p p a b (λ q value. ⊥) lead hold same variables others before (λ q value. ⊥) second (λ q value closed. closed) variable
opened_alike s t u v p (CreateDirectory place attrs variable) variables others c a b before f opens lead hold second same = let none : is_open c ≡ false = ap is_open f.2 in cc
opened_alike s t u v p (CreateShadowed shadow place attrs variable) variables others c a b before f opens lead hold second same = let none : is_open c ≡ false = ap is_open f.2 in cc
opened_alike s t u v p (CreateLink place attrs target variable) variables others c a b before f opens lead hold second same = let none : is_open c ≡ false = ap is_open f.4 in cc
opened_alike s t u v p (CreateObject kind place attrs args variable) variables others c a b before f opens lead hold second same = let none : is_open c ≡ false = ap is_open f.4 in cc
opened_alike s t u v p (Close handle) variables others c a b before f opens lead hold second same = let none : is_open c ≡ false = ap is_open f in cc
opened_alike s t u v p (QueryLink handle) variables others c a b before f opens lead hold second same = let none : is_open c ≡ false = ap is_open f in cc
opened_alike s t u v p (QueryName handle) variables others c a b before f opens lead hold second same = let none : is_open c ≡ false = ap is_open f in cc
opened_alike s t u v p (QueryDirectory handle room mode) variables others c a b before f opens lead hold second same = let none : is_open c ≡ false = ap is_open f in cc
opened_alike s t u v p (Duplicate handle to inherit variable) variables others c a b before f opens lead hold second same = let none : is_open c ≡ false = ap is_open f in cc
opened_alike s t u v p (MakeTemporary handle) variables others c a b before f opens lead hold second same = let none : is_open c ≡ false = ap is_open f in cc
opened_alike s t u v p (MakePermanent handle) variables others c a b before f opens lead hold second same = let none : is_open c ≡ false = ap is_open f in cc
opened_alike s t u v p (SetDeviceMap handle) variables others c a b before f opens lead hold second same = let none : is_open c ≡ false = ap is_open f in cc
opened_alike s t u v p (NewProcess inherit child) variables others c a b before f opens lead hold second same = let none : is_open c ≡ false = ap is_open f in cc
opened_alike s t u v p ExitProcess variables others c a b before f opens lead hold second same = let none : is_open c ≡ false = ap is_open f in cc

-- the variables after the replies of two commands that go on alike
variables_go_on : (s t u v : Space) (p : ℕ) (request : Request (List ℕ)) (variables others : Variables) (c d : Command StandardKind) (a b : Reply) → IsSound s → IsSound t → AreAlike s t
    → AreAlikeVariables s t variables others → IsCommand request variables p c → IsCommand request others p d → AreAlikeAnswers (Done a) (Done b) → GoOn standard s t u v p c d a b
    → AreAlikeVariables u v (variables_after request p a variables) (variables_after request p b others)
variables_go_on s t u v p request variables others c d a b s_sound t_sound alike before command asked answers (inl (one, other)) =
    variables_stay_alike standard s t u v p request variables others c d a b s_sound t_sound alike before command asked one other
variables_go_on s t u v p request variables others c d a b s_sound t_sound alike before command asked answers (inr (opens, opens_too, lead, hold, second)) =
    opened_alike s t u v p request variables others c a b before command opens lead hold second (replies_alike a b answers).1

-- where all of these steps find memory, the first of them do, and those after
front_finds : (own behind : Steps) → FindMemory (own ++ behind) → FindMemory own
front_finds [] behind h = tt
front_finds (step ∷ own) behind h = (h.0, front_finds own behind h.1)

rest_finds : (own behind : Steps) → FindMemory (own ++ behind) → FindMemory behind
rest_finds [] behind h = h
rest_finds (step ∷ own) behind h = rest_finds own behind h.1

-- variables lead to the same handles where none is closed
variables_on : (s t u v : Space) (p : ℕ) (a b : Answer) (variables others : Variables) → LeadOn s t p p a b u v → HoldOn s (λ q value. ⊥) p a u → AreAlikeVariables s t variables others → AreAlikeVariables u v variables others
variables_on s t u v p a b variables others lead hold before = record {
  processes = before.processes;
  values = λ q w. stays q (variables.values q w) (others.values q w) (before.values q w);
  contexts = before.contexts;
  tickets = before.tickets;
  apart = before.apart;
  apart_too = before.apart_too;
}
  where
    stays : (q value other : ℕ) → AreAlikeValues s t q value other → AreAlikeValues u v q value other
    stays q value other (unset zero zero_too) = unset zero zero_too
    stays q value other (set held leads is is_too) = set (hold.stays q value held (λ closed. closed)) (lead.held q value other held leads) is is_too

-- the same ticket under one variable
ticketed_alike : (u v : Space) (variables others : Variables) (p : ℕ) (variable : List ℕ) (n : ℕ) → AreAlikeVariables u v variables others → AreAlikeVariables u v (with_ticket variables p variable n) (with_ticket others p variable n)
ticketed_alike u v variables others p variable n before = record {
  processes = before.processes;
  values = before.values;
  contexts = before.contexts;
  tickets = λ q w. cased (p == q) q w;
  apart = before.apart;
  apart_too = before.apart_too;
}
  where
    cased : (x : Bool) (q : ℕ) (w : List ℕ)
        → cond x (λ w. cond (bytes_eq variable w) n (variables.tickets p w)) (variables.tickets q) w ≡ cond x (λ w. cond (bytes_eq variable w) n (others.tickets p w)) (others.tickets q) w
    cased true q w = ap (λ m. cond (bytes_eq variable w) n m) (before.tickets p w)
    cased false q w = before.tickets q w

-- the variables after the answers to an open that waits
answered_alike : (s t u v : Space) (p : ℕ) (variable : List ℕ) (a b : Answer) (variables others : Variables) → AreAlikeAnswers a b → LeadOn s t p p a b u v → HoldOn s (λ q value. ⊥) p a u → HoldOn t (λ q value. ⊥) p b v
    → AreAlikeVariables s t variables others → AreAlikeVariables u v (variables_answered variables p variable a) (variables_answered others p variable b)
answered_alike s t u v p variable (Done a) (Done b) variables others same lead hold hold_too before =
    ticketed_alike u v (with_variable variables p variable (given_handle a.given)) (with_variable others p variable (given_handle b.given)) p variable 0
    (sets s t u v p p a b (λ q value. ⊥) lead hold (replies_alike a b same).1 variables others before (λ q value. ⊥) hold_too (λ q value closed. closed) variable)
answered_alike s t u v p variable (Ticket m) (Ticket l) variables others same lead hold hold_too before =
    let one : m ≡ l = let e : unvalued_answer (Ticket m) ≡ unvalued_answer (Ticket l) = same in cc in
    subst (λ n. AreAlikeVariables u v (with_ticket variables p variable m) (with_ticket others p variable n)) one
    (ticketed_alike u v variables others p variable m (variables_on s t u v p (Ticket m) (Ticket l) variables others lead hold before))
answered_alike s t u v p variable (Done a) (Ticket l) variables others same lead hold hold_too before = let e : unvalued_answer (Done a) ≡ unvalued_answer (Ticket l) = same in cc
answered_alike s t u v p variable (Ticket m) (Done b) variables others same lead hold hold_too before = let e : unvalued_answer (Ticket m) ≡ unvalued_answer (Done b) = same in cc

-- what is printed of alike answers
answer_text_alike : (a b : Answer) → AreAlikeAnswers a b → answer_text a ≡ answer_text b
answer_text_alike (Done a) (Done b) same = text_alike a b (replies_alike a b same)
answer_text_alike (Ticket m) (Ticket l) same = refl
answer_text_alike (Done a) (Ticket l) same = let e : unvalued_answer (Done a) ≡ unvalued_answer (Ticket l) = same in cc
answer_text_alike (Ticket m) (Done b) same = let e : unvalued_answer (Ticket m) ≡ unvalued_answer (Done b) = same in cc

-- a parse that was run and found memory ran
has_ran : (n : ℕ) (parse : ParseRun) (event : Event StandardKind) → HasRun parse → event ≡ Resume n parse → StepFindsMemory event → parse ≡ run.Ran
has_ran n run.Unrun event has is finds = absurd has
has_ran n run.Ran event has is finds = refl
has_ran n run.NoMemory event has is finds = absurd (subst StepFindsMemory is finds)

owned : (s : Space) (n p : ℕ) → n ≢ 0 → (n ≡ 0) ⊎ WaitsUnder s n p → WaitsFor s n p
owned s n p some (inl none) = absurd (some none)
owned s n p some (inr waits) = waits_for_process s n p waits

-- the steps of a line of an open that waits, in both runs
carried_alike : (s t u v : Space) (p : ℕ) (line : PendingForm (List ℕ)) (variables others : Variables) (tickets : List ℕ) (event other : Event StandardKind) (a b : Answer)
    → IsSound s → IsSound t → AreAlike s t → AreAlikeVariables s t variables others → AreWaiting s variables tickets → MakesStep line p variables → IsEvent line variables p event → IsEvent line others p other
    → StepFindsMemory event → StepFindsMemory other → Step standard s event a u → Step standard t other b v
    → AreAlikeAnswers a b × AreAlike u v × LeadOn s t p p a b u v × HoldOn s (λ q value. ⊥) p a u × HoldOn t (λ q value. ⊥) p b v
carried_alike s t u v p (pending.Begin want name attrs variable) variables others tickets event other a b s_sound t_sound alike before waiting makes (c, (bytes, spelled, same), is) (d, (bytes_too, spelled_too, same_too), is_too) finds finds_too step step_too =
    let one : bytes_too ≡ bytes = spells_alike (text_of name) bytes_too bytes spelled_too spelled in
    let asked = asks_alike s t p (OpenObject want name attrs variable) variables others (command.OpenObject (root_of name (variables.values p)) bytes attrs (option_map kind_meant want))
    (command.OpenObject (root_of name (others.values p)) bytes attrs (option_map kind_meant want)) alike before
    (bytes, spelled, refl) (bytes, spelled, refl) in
    open_alike standard s t u v p (root_of name (variables.values p)) (root_of name (others.values p)) bytes attrs (option_map kind_meant want) a b s_sound t_sound alike asked
    (subst (λ e. Step standard s e a u) (is ∙ ap (Start p) same) step)
    (subst (λ e. Step standard t e b v) (is_too ∙ ap (Start p) (same_too ∙ ap (λ x. command.OpenObject (root_of name (others.values p)) x attrs (option_map kind_meant want)) one)) step_too)
carried_alike s t u v p (pending.End variable) variables others tickets event other a b s_sound t_sound alike before waiting makes (parse, ran, is) (parse_too, ran_too, is_too) finds finds_too step step_too =
    let n : ℕ = variables.tickets p variable in
    let one : others.tickets p variable ≡ n = sym (before.tickets p variable) in
    resume_alike standard s t u v n p a b alike (owned s n p (end_some variables p variable makes) (waiting.theirs p variable))
    (subst (λ x. Step standard s (Resume n x) a u) (has_ran n parse event ran is finds) (subst (λ e. Step standard s e a u) is step))
    (subst (λ k. Step standard t (Resume k run.Ran) b v) one
    (subst (λ x. Step standard t (Resume (others.tickets p variable) x) b v) (has_ran (others.tickets p variable) parse_too other ran_too is_too finds_too) (subst (λ e. Step standard t e b v) is_too step_too)))
carried_alike s t u v p (pending.Drop variable) variables others tickets event other a b s_sound t_sound alike before waiting makes is is_too finds finds_too step step_too =
    let n : ℕ = variables.tickets p variable in
    let one : others.tickets p variable ≡ n = sym (before.tickets p variable) in
    abandon_alike standard s t u v n p run.Unrun a b alike (owned s n p (drop_some variables p variable makes) (waiting.theirs p variable))
    (subst (λ e. Step standard s e a u) is step)
    (subst (λ k. Step standard t (Abandon k run.Unrun) b v) one (subst (λ e. Step standard t e b v) is_too step_too))

-- what is reported in place of a step is the same
told_alike : (s t : Space) (p : ℕ) (line : PendingForm (List ℕ)) (variables others : Variables) → AreAlikeVariables s t variables others
    → told_instead line (is_waiting others p (variable_of line)) ≡ told_instead line (is_waiting variables p (variable_of line))
told_alike s t p line variables others before = ap (λ n. told_instead line (not (n == 0))) (sym (before.tickets p (variable_of line)))

-- what comes after two lines that show the same
shown_on : (x y front front_too output other : List ℕ) (end second : Ending) → x ≡ y → output ≡ x ++ front → other ≡ y ++ front_too → (front ≡ front_too) × (end ≡ second) → (output ≡ other) × (end ≡ second)
shown_on x y front front_too output other end second same out out_too (rest, ends) = (out ∙ (λ i. same i ++ rest i) ∙ sym out_too, ends)

-- from alike states, with alike variables, lines of the same forms show the same
shows_alike : (forms : Forms) (number : ℕ) (variables others : Variables) (s t : Space) (tickets : List ℕ) (steps later : Steps) (output other : List ℕ) (end second : Ending)
    → IsSound s → IsSound t → AreAlike s t → AreAlikeVariables s t variables others → AreWaiting s variables tickets → FindMemory steps → FindMemory later → FindsMemory end → FindsMemory second
    → Shows number forms variables s steps output end → Shows number forms others t later other second → (output ≡ other) × (end ≡ second)
shows_alike [] number variables others s t tickets steps later output other end second s_sound t_sound alike before waiting found found_too finds finds_too (given, out, ends) (given_too, out_too, ends_too) =
    (out ∙ sym out_too, ends ∙ sym ends_too)
shows_alike (None ∷ forms) number variables others s t tickets steps later output other end second s_sound t_sound alike before waiting found found_too finds finds_too (given, out, ends) (given_too, out_too, ends_too) =
    (out ∙ sym out_too, ends ∙ sym ends_too)
shows_alike (Some Nothing ∷ forms) number variables others s t tickets steps later output other end second s_sound t_sound alike before waiting found found_too finds finds_too h k =
    shows_alike forms (number + 1) variables others s t tickets steps later output other end second s_sound t_sound alike before waiting found found_too finds finds_too h k
shows_alike (Some Stat ∷ forms) number variables others s t tickets steps later output other end second s_sound t_sound alike before waiting found found_too finds finds_too (front, out, h) (front_too, out_too, k) =
    shown_on (output_line number (counts_text (counts_of s))) (output_line number (counts_text (counts_of t))) front front_too output other end second
    (λ i. output_line number (counts_text (counts_alike s t alike i))) out out_too
    (shows_alike forms (number + 1) variables others s t tickets steps later front front_too end second s_sound t_sound alike before waiting found found_too finds finds_too h k)
shows_alike (Some (Asks process request) ∷ forms) number variables others s t tickets steps later output other end second s_sound t_sound alike before waiting found found_too finds finds_too
    (inl (c, es, behind, front, a, u, command, chain, es_is, out, h)) (inl (d, fs, behind_too, front_too, b, v, command_too, chain_too, fs_is, out_too, k)) =
    let p : ℕ = variables.processes process in
    let one : others.processes process ≡ p = sym (before.processes process) in
    let asked : IsCommand request others p d = subst (λ n. IsCommand request others n d) one command_too in
    let then : Completes standard (Start p d) fs t b v = subst (λ n. Completes standard (Start n d) fs t b v) one chain_too in
    let shown : Shows (number + 1) forms (variables_after request p b others) v behind_too front_too second =
    subst (λ n. Shows (number + 1) forms (variables_after request n b others) v behind_too front_too second) one k in
    let first_found : FindMemory (es ++ behind) = subst FindMemory es_is found in
    let then_found : FindMemory (fs ++ behind_too) = subst FindMemory fs_is found_too in
    let both = completes_alike standard s t u v p c d es fs a b s_sound t_sound alike (asks_alike s t p request variables others c d alike before command asked)
    (front_finds es behind first_found) (front_finds fs behind_too then_found) chain then in
    shown_on (output_line number (reply_text a)) (output_line number (reply_text b)) front front_too output other end second
    (λ i. output_line number (text_alike a b (replies_alike a b both.0) i)) out out_too
    (shows_alike forms (number + 1) (variables_after request p a variables) (variables_after request p b others) u v tickets behind behind_too front front_too end second
    (completes_sound standard (Start p c) es s u a s_sound chain) (completes_sound standard (Start p d) fs t v b t_sound then) both.1
    (variables_go_on s t u v p request variables others c d a b s_sound t_sound alike before command asked both.0 both.2)
    (answered_waiting s u variables p request c es a tickets s_sound chain waiting)
    (rest_finds es behind first_found) (rest_finds fs behind_too then_found) finds finds_too h shown)
shows_alike (Some (Asks process request) ∷ forms) number variables others s t tickets steps later output other end second s_sound t_sound alike before waiting found found_too finds finds_too
    (inl h) (inr (own, behind, w, wants, is, (out, ends, given))) = no_memory second number finds_too ends
shows_alike (Some (Asks process request) ∷ forms) number variables others s t tickets steps later output other end second s_sound t_sound alike before waiting found found_too finds finds_too
    (inr (own, behind, w, wants, is, (out, ends, given))) k = no_memory end number finds ends
shows_alike (Some (Waits process line) ∷ forms) number variables others s t tickets steps later output other end second s_sound t_sound alike before waiting found found_too finds finds_too
    (inl (text, front, told, out, h)) (inl (text_too, front_too, told_too, out_too, k)) =
    let p : ℕ = variables.processes process in
    let one : others.processes process ≡ p = sym (before.processes process) in
    let there : told_instead line (is_waiting others p (variable_of line)) ≡ Some text_too = subst (λ n. told_instead line (is_waiting others n (variable_of line)) ≡ Some text_too) one told_too in
    let same : text ≡ text_too = let e : Some text ≡ Some text_too = sym told ∙ (sym (told_alike s t p line variables others before) ∙ there) in cc in
    shown_on (output_line number text) (output_line number text_too) front front_too output other end second (ap (output_line number) same) out out_too
    (shows_alike forms (number + 1) variables others s t tickets steps later front front_too end second s_sound t_sound alike before waiting found found_too finds finds_too h k)
shows_alike (Some (Waits process line) ∷ forms) number variables others s t tickets steps later output other end second s_sound t_sound alike before waiting found found_too finds finds_too
    (inl (text, front, told, out, h)) (inr (inl (event, a, behind, front_too, u, makes, asked, step, is, out_too, k))) =
    let p : ℕ = variables.processes process in
    let one : others.processes process ≡ p = sym (before.processes process) in
    let there : told_instead line (is_waiting others p (variable_of line)) ≡ None = subst (λ n. told_instead line (is_waiting others n (variable_of line)) ≡ None) one makes in
    let bad : Some text ≡ None = sym told ∙ (sym (told_alike s t p line variables others before) ∙ there) in cc
shows_alike (Some (Waits process line) ∷ forms) number variables others s t tickets steps later output other end second s_sound t_sound alike before waiting found found_too finds finds_too
    (inr (inl (event, a, behind, front, u, makes, asked, step, is, out, h))) (inl (text, front_too, told, out_too, k)) =
    let p : ℕ = variables.processes process in
    let one : others.processes process ≡ p = sym (before.processes process) in
    let there : told_instead line (is_waiting others p (variable_of line)) ≡ Some text = subst (λ n. told_instead line (is_waiting others n (variable_of line)) ≡ Some text) one told in
    let bad : Some text ≡ None = sym there ∙ (told_alike s t p line variables others before ∙ makes) in cc
shows_alike (Some (Waits process line) ∷ forms) number variables others s t tickets steps later output other end second s_sound t_sound alike before waiting found found_too finds finds_too
    (inr (inl (event, a, behind, front, u, makes, asked, step, is, out, h))) (inr (inl (event_too, b, behind_too, front_too, v, makes_too, asked_too, step_too, is_too, out_too, k))) =
    let p : ℕ = variables.processes process in
    let one : others.processes process ≡ p = sym (before.processes process) in
    let first_found : FindMemory ((event, a) ∷ behind) = subst FindMemory is found in
    let then_found : FindMemory ((event_too, b) ∷ behind_too) = subst FindMemory is_too found_too in
    let both = carried_alike s t u v p line variables others tickets event event_too a b s_sound t_sound alike before waiting makes asked
    (subst (λ n. IsEvent line others n event_too) one asked_too) first_found.0 then_found.0 step step_too in
    let left = carried_waiting s u variables p line event a tickets s_sound makes asked step waiting in
    shown_on (output_line number (answer_text a)) (output_line number (answer_text b)) front front_too output other end second
    (ap (output_line number) (answer_text_alike a b both.0)) out out_too
    (shows_alike forms (number + 1) (variables_answered variables p (variable_of line) a) (variables_answered others p (variable_of line) b) u v left.0 behind behind_too front front_too end second
    (step_sound standard s u event a s_sound step) (step_sound standard t v event_too b t_sound step_too) both.1
    (answered_alike s t u v p (variable_of line) a b variables others both.0 both.2 both.3 both.4 before) left.1 first_found.1 then_found.1 finds finds_too
    h (subst (λ n. Shows (number + 1) forms (variables_answered others n (variable_of line) b) v behind_too front_too second) one k))
shows_alike (Some (Waits process line) ∷ forms) number variables others s t tickets steps later output other end second s_sound t_sound alike before waiting found found_too finds finds_too
    h (inr (inr (own, behind, w, variables', makes, wants, is, (out, ends, given)))) = no_memory second number finds_too ends
shows_alike (Some (Waits process line) ∷ forms) number variables others s t tickets steps later output other end second s_sound t_sound alike before waiting found found_too finds finds_too
    (inr (inr (own, behind, w, variables', makes, wants, is, (out, ends, given)))) k = no_memory end number finds ends

pub forms_alike : FormsShowTheSame
forms_alike forms steps others output other end second found found_too finds finds_too (a, entries, s, a_fresh, run, seats, made, h) (b, later, t, b_fresh, run_too, seats_too, made_too, k) =
    let same : a ≡ b = fresh_alike a b a_fresh b_fresh in
    shows_alike forms 1 first_variables first_variables (opening a) (opening b) [] steps others output other end second (opening_sound a) (opening_sound b)
    (ap (λ x. unvalued (opening {K = StandardKind} x)) same) (first_alike (opening a) (opening b)) (first_waiting (opening a)) found found_too finds finds_too h k

-- lines that end at one that is no script line show the same with more after them
shows_more : (forms later : Forms) (number : ℕ) (variables : Variables) (s : Space) (steps : Steps) (output : List ℕ) (line : ℕ)
    → Shows number forms variables s steps output (ending.BadLine line) → Shows number (forms ++ later) variables s steps output (ending.BadLine line)
shows_more [] later number variables s steps output line (none, out, ends) = cc
shows_more (None ∷ forms) later number variables s steps output line h = h
shows_more (Some Nothing ∷ forms) later number variables s steps output line h = shows_more forms later (number + 1) variables s steps output line h
shows_more (Some Stat ∷ forms) later number variables s steps output line (front, out, h) = (front, out, shows_more forms later (number + 1) variables s steps front line h)
shows_more (Some (Asks process request) ∷ forms) later number variables s steps output line (inl (c, own, behind, front, a, u, command, chain, is, out, h)) =
    inl (c, own, behind, front, a, u, command, chain, is, out, shows_more forms later (number + 1) (variables_after request (variables.processes process) a variables) u behind front line h)
shows_more (Some (Asks process request) ∷ forms) later number variables s steps output line (inr h) = inr h
shows_more (Some (Waits process form) ∷ forms) later number variables s steps output line (inl (text, front, told, out, h)) =
    inl (text, front, told, out, shows_more forms later (number + 1) variables s steps front line h)
shows_more (Some (Waits process form) ∷ forms) later number variables s steps output line (inr (inl (event, a, behind, front, u, makes, asked, step, is, out, h))) =
    inr (inl (
      event,
      a,
      behind,
      front,
      u,
      makes,
      asked,
      step,
      is,
      out,
      shows_more forms later (number + 1) (variables_answered variables (variables.processes process) (variable_of form) a) u behind front line h,
    ))
shows_more (Some (Waits process form) ∷ forms) later number variables s steps output line (inr (inr h)) = inr (inr h)

plays_more : (forms later : Forms) (steps : Steps) (output : List ℕ) (line : ℕ) → PlaysFormsBy forms steps output (ending.BadLine line) → PlaysFormsBy (forms ++ later) steps output (ending.BadLine line)
plays_more forms later steps output line (first, entries, s, fresh, run, seats, made, h) =
    (first, entries, s, fresh, run, seats, made, shows_more forms later 1 first_variables (opening first) steps output line h)

-- of two readings of a script's lines, the longer one plays what the shorter one does
plays_longer : (script x y : List ℕ) (a b : Forms) (steps : Steps) (output : List ℕ) (end : Ending) → FindsMemory end → BeginsWithForms script a x → BeginsWithForms script b y
    → length a ≤ length b → (end ≡ ending.Done → x ≡ []) → PlaysFormsBy a steps output end → PlaysFormsBy b steps output end
plays_longer script x y a b steps output ending.Done finds h k less whole plays =
    let more = goes_on script y b a k (subst (λ z. BeginsWithForms script a z) (whole refl) h) in
    subst (λ z. PlaysFormsBy z steps output ending.Done) (ends more.0 more.1) plays
  where
    ends : (later : Forms) → a ≡ b ++ later → a ≡ b
    ends [] e = e ∙ append-nil b
    ends (form ∷ later) e = absurd (omega (arith, ap length e, length-append b (form ∷ later), less))
plays_longer script x y a b steps output (ending.BadLine line) finds h k less whole plays =
    let front : a ≡ take (length a) b = scripts_read_alike script x y a b h k less in
    let joined : a ++ drop (length a) b ≡ b = ap (λ z. z ++ drop (length a) b) front ∙ take-append-drop (length a) b in
    subst (λ z. PlaysFormsBy z steps output (ending.BadLine line)) joined (plays_more a (drop (length a) b) steps output line plays)
plays_longer script x y a b steps output (ending.NoMemoryAt line) finds h k less whole plays = absurd finds

pub scripts_alike : ScriptsShowTheSame
scripts_alike script steps others output other end second found found_too finds finds_too (a, x, h, whole, plays) (b, y, k, whole_too, plays_too) = go (cases_lt (length a) (length b))
  where
    go : (length a < length b) ⊎ (length b ≤ length a) → (output ≡ other) × (end ≡ second)
    go (inl less) =
        forms_alike b steps others output other end second found found_too finds finds_too
        (plays_longer script x y a b steps output end finds h k (omega (arith, less)) whole plays) plays_too
    go (inr less) =
        forms_alike a steps others output other end second found found_too finds finds_too plays
        (plays_longer script y x b a others other second finds_too k h less whole_too plays_too)
