-- The opens that wait under variables go on waiting through steps that don't end them; one more begins to wait, or one ends.
use Rattle.std.proofs.Common.{◌≡◌, ◌≢◌, ◌∙◌, ℕ, ◌<◌, ◌==◌, Bool, true, false, not, cond, List, [], ◌∷◌, ◌++◌, find, ◌⊎◌, inl, inr, All, Option, None, Some, refl, ap, sym, subst, arith, eq-eqb, eqb-true}
use Rattle.std.specs.Prelude.{MatchOption, codes}
use Rattle.std.specs.Str.{bytes_eq}
use Rattle.std.proofs.lemmas.List.Elements.{All-nil, All-head, All-tail, All-weaker, All-filter}
use Rattle.ob_model.specs.declared.command.Command.{Command}
use Rattle.ob_model.specs.declared.reply.Answer.{Answer}
use Rattle.ob_model.specs.declared.reply.Answer.TheVariants.{Done, Ticket}
use Rattle.ob_model.specs.declared.reply.Event.{Event}
use Rattle.ob_model.specs.declared.reply.Event.TheVariants.{Start, Resume, Abandon}
use Rattle.ob_base.specs.declared.status.Status.TheVariants.{Success}
use Rattle.ob_model.specs.declared.reply.Given.{Given}
use Rattle.ob_model.specs.declared.reply.Given.TheVariants as given
use Rattle.ob_model.specs.declared.reply.ParseRun.{ParseRun}
use Rattle.ob_model.specs.declared.reply.ParseRun.TheVariants as run
use Rattle.ob_model.specs.Parses.{Abandons}
use Rattle.ob_model.specs.Refusals.{answers}
use Rattle.ob_model.specs.declared.reply.Reply.{Reply}
use Rattle.ob_model.specs.declared.state.PendingOpen.{PendingOpen}
use Rattle.ob_model.specs.PendingOpens.{face_of, pending_of}
use Rattle.ob_model.specs.Sound.{IsSound}
use Rattle.ob_model.specs.Step.{Step}
use Rattle.ob_model.proofs.Steps.{step_sound}
use Rattle.ob_runner.specs.declared.begun.Begun.{Begun}
use Rattle.ob_runner.specs.declared.begun.Begun.TheVariants as begun
use Rattle.ob_runner.specs.Begun.{AreAwaited, answer_in, with_begun, without}
use Rattle.ob_runner.proofs.Awaited.{falters_all_await}
use Rattle.ob_runner.proofs.Numbers.{ticket_is_next}
use Rattle.ob_runner.specs.Begun.{IsNoEnd}
use Rattle.ob_runner.proofs.Pending.{step_pending}
use Rattle.ob_runner.specs.Completes.{Leads, HasRun, Completes, GivesUp, Falters}
use Rattle.ob_runner.proofs.Chains.{falters_sound, gives_up_sound}
use Rattle.ob_runner.proofs.Fewer.{BeginsFor, WaitsFor, start_begins, step_begins}
use Rattle.ob_types.specs.Parse.{ToRun}
use Rattle.ob_standard.specs.Standard.{StandardKind, StandardFace, standard}
use Rattle.ob_parts.specs.declared.kind.KindForm.{KindForm}
use Rattle.ob_lines.specs.Changes.{change_of}
use Rattle.ob_lines.specs.declared.change.Change.{Change}
use Rattle.ob_lines.specs.declared.change.Change.TheVariants as change
use Rattle.ob_lines.specs.declared.pending.PendingForm.{PendingForm}
use Rattle.ob_lines.specs.declared.pending.PendingForm.TheVariants as pending
use Rattle.ob_lines.specs.declared.request.Request.{Request}
use Rattle.ob_parts.specs.declared.name.NameForm.{NameForm}
use Rattle.ob_requests.specs.Commands.{IsOpenObject, is_success, with_child, with_page, changed, variables_after}
use Rattle.ob_requests.specs.Variables.{Variables, first_variables, with_ticket, with_number_of, with_variable, without_variables}
use Rattle.ob_standard_core.specs.Machine.{Space}
use Rattle.ob_effects.specs.Kept.{WaitsUnder, AreWaiting}
use Rattle.ob_effects.specs.Effects.{MakesStep, WantsMemory}
use Rattle.ob_effects.specs.Waiting.{Steps, AreTickets, IsUnderVariable, IsEvent, FindsNone, variable_of, variables_answered}
use Rattle.ob_effects.proofs.Tickets.{IsVariableOf, IsSet, is_set, its_number, bytes_same, stays_other, cleared_listed, cleared_apart, begun_listed, begun_apart}

-- an open goes on waiting
pub goes_on_waiting : (s t : Space) (event : Event StandardKind) (a : Answer) (n p : ℕ) → IsSound s → IsNoEnd n event → Step standard s event a t → WaitsUnder s n p → WaitsUnder t n p
goes_on_waiting s t event a n p sound other step (x, face, found, has, theirs, parses) =
    let still = step_pending standard n x face s t event a sound other (found, has) step in
    (x, face, still.0, still.1, theirs, parses)

-- what waits was drawn before
found_all : {X : Type 0} (P : X → Type 0) (test : X → Bool) (xs : List X) (x : X) → All P xs → find test xs ≡ Some x → P x
found_all P test [] x h e = cc
found_all {X} P test (y ∷ ys) x h e = go (test y) e (found_all P test ys x (All-tail P y ys h))
  where
    go : (b : Bool) → cond b (Some y) (find test ys) ≡ Some x → (find test ys ≡ Some x → P x) → P x
    go true e on = let same : y ≡ x = cc in subst P same (All-head P y ys h)
    go false e on = on e

found_ticket : (n : ℕ) (xs : List (PendingOpen StandardKind)) (x : PendingOpen StandardKind) → find (λ y. y.ticket == n) xs ≡ Some x → x.ticket ≡ n
found_ticket n [] x e = cc
found_ticket n (y ∷ ys) x e = go (y.ticket == n) refl e (found_ticket n ys x)
  where
    go : (b : Bool) → (y.ticket == n) ≡ b → cond b (Some y) (find (λ z. z.ticket == n) ys) ≡ Some x → (find (λ z. z.ticket == n) ys ≡ Some x → x.ticket ≡ n) → x.ticket ≡ n
    go true is e on = let same : y ≡ x = cc in ap (λ (z : PendingOpen StandardKind). z.ticket) (sym same) ∙ eqb-true y.ticket n is
    go false is e on = on e

pub is_drawn : (s : Space) (n p : ℕ) → IsSound s → WaitsUnder s n p → n < s.next_id
is_drawn s n p sound (x, face, found, has, theirs, parses) =
    subst (λ k. k < s.next_id) (found_ticket n s.pending x found) (found_all (λ y. y.ticket < s.next_id) (λ y. y.ticket == n) s.pending x sound.pending.ticketed found)

-- the ticket of what waits is no object's number, and so none is 0
pub is_some : (s : Space) (n p : ℕ) → IsSound s → WaitsUnder s n p → n ≢ 0
is_some s n p sound (x, face, found, has, theirs, parses) none =
    let above : x.object < x.ticket = found_all (λ y. y.object < y.ticket) (λ y. y.ticket == n) s.pending x sound.pending.later found in
    omega (arith, above, found_ticket n s.pending x found, none)

-- what begins to wait
pub begins_to_wait : (s t : Space) (n p : ℕ) → BeginsFor standard s t n p → WaitsUnder t n p
begins_to_wait s t n p (x, begun, theirs) = go (face_of t x.object) refl begun.1
  where
    go : (found : Option StandardFace) → face_of t x.object ≡ found → MatchOption found ⊥ (λ face. standard.parses (standard.kind_of face) ≡ true) → WaitsUnder t n p
    go None e parses = absurd parses
    go (Some face) e parses = (x, face, begun.0, e, theirs, parses)

pub waits_for_process : (s : Space) (n p : ℕ) → WaitsUnder s n p → WaitsFor s n p
waits_for_process s n p (x, face, found, has, theirs, parses) = subst (λ o. MatchOption o ⊥ (λ y. y.process ≡ p)) (sym found) theirs

-- ---- the opens that wait under variables

-- the variables have the same tickets
pub same_waiting : (s : Space) (variables variables' : Variables) (tickets : List ℕ) → variables'.tickets ≡ variables.tickets → AreWaiting s variables tickets → AreWaiting s variables' tickets
same_waiting s variables variables' tickets same waiting = record {
  listed = subst (λ f. AreTickets f tickets) (sym same) waiting.listed;
  theirs = subst (λ (f : ℕ → List ℕ → ℕ). (p : ℕ) (w : List ℕ) → (f p w ≡ 0) ⊎ WaitsUnder s (f p w) p) (sym same) waiting.theirs;
  apart = subst (λ (f : ℕ → List ℕ → ℕ). (p q : ℕ) (a b : List ℕ) → f p a ≡ f q b → (f p a ≡ 0) ⊎ ((p ≡ q) × (bytes_eq a b ≡ true))) (sym same) waiting.apart;
}

-- all go on waiting
pub moved_waiting : (s t : Space) (variables : Variables) (tickets : List ℕ) → ((n p : ℕ) → WaitsUnder s n p → WaitsUnder t n p) → AreWaiting s variables tickets → AreWaiting t variables tickets
moved_waiting s t variables tickets on waiting = record {
  listed = waiting.listed;
  theirs = λ p w. go p w (waiting.theirs p w);
  apart = waiting.apart;
}
  where
    go : (p : ℕ) (w : List ℕ) → (variables.tickets p w ≡ 0) ⊎ WaitsUnder s (variables.tickets p w) p → (variables.tickets p w ≡ 0) ⊎ WaitsUnder t (variables.tickets p w) p
    go p w (inl none) = inl none
    go p w (inr waits) = inr (on (variables.tickets p w) p waits)

-- all tickets were drawn before
pub are_drawn : (s : Space) (variables : Variables) (tickets : List ℕ) → IsSound s → AreWaiting s variables tickets → All (λ k. k < s.next_id) tickets
are_drawn s variables tickets sound waiting = All-weaker (IsUnderVariable variables.tickets) (λ k. k < s.next_id) one tickets waiting.listed.held
  where
    one : (n : ℕ) → IsUnderVariable variables.tickets n → n < s.next_id
    one n (some, (p, w, e)) = go (waiting.theirs p w)
      where
        go : (variables.tickets p w ≡ 0) ⊎ WaitsUnder s (variables.tickets p w) p → n < s.next_id
        go (inl none) = absurd (some (sym e ∙ none))
        go (inr waits) = subst (λ k. k < s.next_id) e (is_drawn s (variables.tickets p w) p sound waits)

-- one ends, under its variable, and the others go on
pub cleared_waiting : (s t : Space) (variables variables' : Variables) (process : ℕ) (variable : List ℕ) (tickets : List ℕ) → variables.tickets process variable ≢ 0 → IsSet variables.tickets variables'.tickets process variable 0
    → ((n p : ℕ) → variables.tickets process variable ≢ n → WaitsUnder s n p → WaitsUnder t n p) → AreWaiting s variables tickets → AreWaiting t variables' (without (variables.tickets process variable) tickets)
cleared_waiting s t variables variables' process variable tickets some set on waiting = record {
  listed = cleared_listed f h process variable n refl some set waiting.apart tickets waiting.listed;
  theirs = λ p w. go p w (set p w) (waiting.theirs p w);
  apart = cleared_apart f h process variable n refl some set waiting.apart;
}
  where
    f : ℕ → List ℕ → ℕ
    f = variables.tickets

    h : ℕ → List ℕ → ℕ
    h = variables'.tickets

    n : ℕ
    n = variables.tickets process variable

    go : (p : ℕ) (w : List ℕ) → (IsVariableOf process variable p w × (h p w ≡ 0)) ⊎ ((IsVariableOf process variable p w → ⊥) × (h p w ≡ f p w))
        → (f p w ≡ 0) ⊎ WaitsUnder s (f p w) p → (h p w ≡ 0) ⊎ WaitsUnder t (h p w) p
    go p w (inl (is, none)) waits = inl none
    go p w (inr (other, same)) (inl none) = inl (same ∙ none)
    go p w (inr (other, same)) (inr waits) =
        inr (subst (λ k. WaitsUnder t k p) (sym same) (on (f p w) p (λ is. stays_other f h process variable n refl some set waiting.apart p w other (sym is)) waits))

-- one more begins to wait, under a variable under which none waits
pub begun_waiting : (t : Space) (variables variables' : Variables) (process : ℕ) (variable : List ℕ) (n : ℕ) (tickets : List ℕ) → variables.tickets process variable ≡ 0 → n ≢ 0
    → IsSet variables.tickets variables'.tickets process variable n → All (λ k. k < n) tickets → WaitsUnder t n process → AreWaiting t variables tickets → AreWaiting t variables' (tickets ++ n ∷ [])
begun_waiting t variables variables' process variable n tickets free some set below waits waiting = record {
  listed = begun_listed f h process variable n free some set tickets below waiting.listed;
  theirs = λ p w. go p w (set p w) (waiting.theirs p w);
  apart = begun_apart f h process variable n free some set tickets below waiting.listed waiting.apart;
}
  where
    f : ℕ → List ℕ → ℕ
    f = variables.tickets

    h : ℕ → List ℕ → ℕ
    h = variables'.tickets

    go : (p : ℕ) (w : List ℕ) → (IsVariableOf process variable p w × (h p w ≡ n)) ⊎ ((IsVariableOf process variable p w → ⊥) × (h p w ≡ f p w))
        → (f p w ≡ 0) ⊎ WaitsUnder t (f p w) p → (h p w ≡ 0) ⊎ WaitsUnder t (h p w) p
    go p w (inl (is, set)) other = inr (subst (λ k. WaitsUnder t k p) (sym set) (subst (WaitsUnder t n) is.0 waits))
    go p w (inr (other, same)) (inl none) = inl (same ∙ none)
    go p w (inr (other, same)) (inr waits) = inr (subst (λ k. WaitsUnder t k p) (sym same) waits)

-- ---- lines of opens that wait

-- a line that begins an open makes a step where none waits under its variable, and one that ends or drops one where one does
pub begin_free : (variables : Variables) (p : ℕ) (want : Option KindForm) (name : NameForm (List ℕ)) (attrs : ℕ) (variable : List ℕ) → MakesStep (pending.Begin want name attrs variable) p variables → variables.tickets p variable ≡ 0
begin_free variables p want name attrs variable h = go (variables.tickets p variable == 0) refl h
  where
    go : (b : Bool) → (variables.tickets p variable == 0) ≡ b → cond (not b) (Some (codes "BUSY")) None ≡ None → variables.tickets p variable ≡ 0
    go true e h = eqb-true (variables.tickets p variable) 0 e
    go false e h = cc

some_waits : (n : ℕ) → cond (not (n == 0)) None (Some (codes "NO PENDING")) ≡ None → n ≢ 0
some_waits n h = go (n == 0) refl h
  where
    go : (b : Bool) → (n == 0) ≡ b → cond (not b) None (Some (codes "NO PENDING")) ≡ None → n ≢ 0
    go true e h = cc
    go false e h = λ is. let bad : true ≡ false = sym (eq-eqb n 0 is) ∙ e in cc

pub end_some : (variables : Variables) (p : ℕ) (variable : List ℕ) → MakesStep (pending.End variable) p variables → variables.tickets p variable ≢ 0
end_some variables p variable h = some_waits (variables.tickets p variable) h

pub drop_some : (variables : Variables) (p : ℕ) (variable : List ℕ) → MakesStep (pending.Drop variable) p variables → variables.tickets p variable ≢ 0
drop_some variables p variable h = some_waits (variables.tickets p variable) h

-- tickets with that of an answer, where it is one
abbrev pub with_answer : Answer → List ℕ → List ℕ
with_answer (Done reply) tickets = tickets
with_answer (Ticket n) tickets = tickets ++ n ∷ []

pub begun_tickets : (begun : Begun) (tickets : List ℕ) → with_begun begun tickets ≡ with_answer (answer_in begun) tickets
begun_tickets (begun.Replied reply) tickets = refl
begun_tickets (begun.Waits n) tickets = refl

-- the tickets of variables where none is cleared
cleared_none : (f : ℕ → List ℕ → ℕ) (process : ℕ) (variable : List ℕ) → f process variable ≡ 0 → with_number_of f process variable 0 ≡ f
cleared_none f process variable none = λ i p w. one p w (is_set f process variable 0 p w) i
  where
    one : (p : ℕ) (w : List ℕ) → (IsVariableOf process variable p w × (with_number_of f process variable 0 p w ≡ 0)) ⊎ ((IsVariableOf process variable p w → ⊥) × (with_number_of f process variable 0 p w ≡ f p w))
        → with_number_of f process variable 0 p w ≡ f p w
    one p w (inl (is, zero)) = zero ∙ sym (its_number f process p variable w is ∙ none)
    one p w (inr (other, same)) = same

-- one number set after another
set_behind : (f : ℕ → List ℕ → ℕ) (process : ℕ) (variable : List ℕ) (n : ℕ) → IsSet (with_number_of f process variable 0) (with_number_of f process variable n) process variable n
set_behind f process variable n p w = go (is_set f process variable n p w) (is_set f process variable 0 p w)
  where
    go : (IsVariableOf process variable p w × (with_number_of f process variable n p w ≡ n)) ⊎ ((IsVariableOf process variable p w → ⊥) × (with_number_of f process variable n p w ≡ f p w))
        → (IsVariableOf process variable p w × (with_number_of f process variable 0 p w ≡ 0)) ⊎ ((IsVariableOf process variable p w → ⊥) × (with_number_of f process variable 0 p w ≡ f p w))
        → (IsVariableOf process variable p w × (with_number_of f process variable n p w ≡ n)) ⊎ ((IsVariableOf process variable p w → ⊥) × (with_number_of f process variable n p w ≡ with_number_of f process variable 0 p w))
    go (inl is) k = inl is
    go (inr (other, same)) (inl (is, zero)) = absurd (other is)
    go (inr (other, same)) (inr (other_too, same_too)) = inr (other, same ∙ sym same_too)

pub none_held : (variables : Variables) (p : ℕ) (variable : List ℕ) → with_number_of variables.tickets p variable 0 p variable ≡ 0
none_held variables p variable = elim (is_set variables.tickets p variable 0 p variable) as (λ x. with_number_of variables.tickets p variable 0 p variable ≡ 0) [
  | inl (is, zero) ↦ zero
  | inr (other, same) ↦ absurd (other (refl, bytes_same variable variable refl))
]

all_without : (P : ℕ → Type 0) (n : ℕ) (tickets : List ℕ) → All P tickets → All P (without n tickets)
all_without P n tickets h = All-filter (λ k. not (k == n)) P tickets h

-- an open was begun
pub begin_waiting : (s t : Space) (variables : Variables) (p : ℕ) (variable : List ℕ) (c : Command StandardKind) (a : Answer) (tickets : List ℕ) → IsSound s → variables.tickets p variable ≡ 0
    → Step standard s (Start p c) a t → AreWaiting s variables tickets → AreWaiting t (variables_answered variables p variable a) (with_answer a tickets)
begin_waiting s t variables p variable c (Done reply) tickets sound free step waiting =
    same_waiting t variables (variables_answered variables p variable (Done reply)) tickets (cleared_none variables.tickets p variable free)
    (moved_waiting s t variables tickets (λ n q waits. goes_on_waiting s t (Start p c) (Done reply) n q sound tt step waits) waiting)
begin_waiting s t variables p variable c (Ticket m) tickets sound free step waiting =
    let waits : WaitsUnder t m p = begins_to_wait s t m p (start_begins standard s t m sound p c step).0 in
    let next : m ≡ s.next_id = ticket_is_next standard m s t (Start p c) step in
    begun_waiting t variables (with_ticket variables p variable m) p variable m tickets free (is_some t m p (step_sound standard s t (Start p c) (Ticket m) sound step) waits) (is_set variables.tickets p variable m)
    (subst (λ n. All (λ k. k < n) tickets) (sym next) (are_drawn s variables tickets sound waiting)) waits
    (moved_waiting s t variables tickets (λ n q waits. goes_on_waiting s t (Start p c) (Ticket m) n q sound tt step waits) waiting)

-- an open was ended under its variable
pub end_waiting : (s t : Space) (variables : Variables) (p : ℕ) (variable : List ℕ) (parse : ParseRun) (a : Answer) (tickets : List ℕ) → IsSound s → variables.tickets p variable ≢ 0
    → Step standard s (Resume (variables.tickets p variable) parse) a t → AreWaiting s variables tickets
    → AreWaiting t (variables_answered variables p variable a) (with_answer a (without (variables.tickets p variable) tickets))
end_waiting s t variables p variable parse (Done reply) tickets sound some step waiting =
    cleared_waiting s t variables (variables_answered variables p variable (Done reply)) p variable tickets some (is_set variables.tickets p variable 0)
    (λ n q other waits. goes_on_waiting s t (Resume (variables.tickets p variable) parse) (Done reply) n q sound other step waits) waiting
end_waiting s t variables p variable parse (Ticket m) tickets sound some step waiting =
    let event : Event StandardKind = Resume (variables.tickets p variable) parse in
    let owned : WaitsUnder s (variables.tickets p variable) p = owner (waiting.theirs p variable) in
    let waits : WaitsUnder t m p = begins_to_wait s t m p (step_begins standard s t m sound (variables.tickets p variable) parse p (waits_for_process s (variables.tickets p variable) p owned) step) in
    let next : m ≡ s.next_id = ticket_is_next standard m s t event step in
    begun_waiting t (with_ticket variables p variable 0) (with_ticket variables p variable m) p variable m (without (variables.tickets p variable) tickets) (none_held variables p variable)
    (is_some t m p (step_sound standard s t event (Ticket m) sound step) waits) (set_behind variables.tickets p variable m)
    (subst (λ n. All (λ k. k < n) (without (variables.tickets p variable) tickets)) (sym next) (all_without (λ k. k < s.next_id) (variables.tickets p variable) tickets (are_drawn s variables tickets sound waiting))) waits
    (cleared_waiting s t variables (with_ticket variables p variable 0) p variable tickets some (is_set variables.tickets p variable 0)
    (λ n q other waits. goes_on_waiting s t event (Ticket m) n q sound other step waits) waiting)
  where
    owner : (variables.tickets p variable ≡ 0) ⊎ WaitsUnder s (variables.tickets p variable) p → WaitsUnder s (variables.tickets p variable) p
    owner (inl none) = absurd (some none)
    owner (inr waits) = waits

-- an open was given up under its variable
pub dropped_waiting : (s t : Space) (variables variables' : Variables) (p : ℕ) (variable : List ℕ) (parse : ParseRun) (a : Answer) (tickets : List ℕ) → IsSound s → variables.tickets p variable ≢ 0
    → variables'.tickets ≡ with_number_of variables.tickets p variable 0 → Step standard s (Abandon (variables.tickets p variable) parse) a t → AreWaiting s variables tickets
    → AreWaiting t variables' (without (variables.tickets p variable) tickets)
dropped_waiting s t variables variables' p variable parse a tickets sound some same step waiting =
    cleared_waiting s t variables variables' p variable tickets some (subst (λ h. IsSet variables.tickets h p variable 0) (sym same) (is_set variables.tickets p variable 0))
    (λ n q other waits. goes_on_waiting s t (Abandon (variables.tickets p variable) parse) a n q sound other step waits) waiting

-- ---- requests

-- what waits goes on waiting while a command is run to its reply, or given up: the tickets on the way are drawn on the way
drawn_apart : (s t : Space) (event : Event StandardKind) (m n p : ℕ) → IsSound s → Step standard s event (Ticket m) t → WaitsUnder s n p → m ≢ n
drawn_apart s t event m n p sound step waits same = omega (arith, is_drawn s n p sound waits, same, ticket_is_next standard m s t event step)

completes_goes_on : (event : Event StandardKind) (steps : Steps) (s t : Space) (reply : Reply) (n p : ℕ) → IsSound s → IsNoEnd n event → WaitsUnder s n p → Completes standard event steps s reply t → WaitsUnder t n p
completes_goes_on event [] s t reply n p sound other waits h = absurd h
completes_goes_on event (step ∷ steps) s t reply n p sound other waits (u, asked, made, h) =
    go step.1 made (λ m parse differ more. completes_goes_on (Resume m parse) steps u t reply n p (step_sound standard s u event step.1 sound made) differ (goes_on_waiting s u event step.1 n p sound other made waits) more) h
  where
    go : (a : Answer) → Step standard s event a u → ((m : ℕ) (parse : ParseRun) → m ≢ n → Completes standard (Resume m parse) steps u reply t → WaitsUnder t n p)
        → Leads a (λ given. (given ≡ reply) × (steps ≡ []) × (t ≡ u)) (λ m. (parse : ParseRun) × HasRun parse × Completes standard (Resume m parse) steps u reply t) → WaitsUnder t n p
    go (Done given) made on (same, none, is) = subst (λ x. WaitsUnder x n p) (sym is) (goes_on_waiting s u event (Done given) n p sound other made waits)
    go (Ticket m) made on (parse, ran, h) = on m parse (drawn_apart s u event m n p sound made waits) h

gives_up_goes_on : (m : ℕ) (steps : Steps) (s t : Space) (n p : ℕ) → IsSound s → m ≢ n → WaitsUnder s n p → GivesUp standard m steps s t → WaitsUnder t n p
gives_up_goes_on m [] s t n p sound other waits h = absurd h
gives_up_goes_on m (step ∷ steps) s t n p sound other waits (inl (parse, asked, answered, made, none)) =
    goes_on_waiting s t step.0 step.1 n p sound (subst (IsNoEnd n) (sym asked) other) made waits
gives_up_goes_on m (step ∷ steps) s t n p sound other waits (inr (parse, k, u, ran, asked, answered, made, h)) =
    gives_up_goes_on k steps u t n p (step_sound standard s u step.0 step.1 sound made) (drawn_apart s u step.0 k n p sound (subst (λ a. Step standard s step.0 a u) answered made) waits)
    (goes_on_waiting s u step.0 step.1 n p sound (subst (IsNoEnd n) (sym asked) other) made waits) h

falters_goes_on : (event : Event StandardKind) (steps : Steps) (s t : Space) (n p : ℕ) → IsSound s → IsNoEnd n event → WaitsUnder s n p → Falters standard event steps s t → WaitsUnder t n p
falters_goes_on event [] s t n p sound other waits (same, may) = subst (λ x. WaitsUnder x n p) (sym same) waits
falters_goes_on event (step ∷ steps) s t n p sound other waits (m, u, asked, answered, made, h) =
    gives_up_goes_on m steps u t n p (step_sound standard s u step.0 step.1 sound made) (drawn_apart s u step.0 m n p sound (subst (λ a. Step standard s step.0 a u) answered made) waits)
    (goes_on_waiting s u step.0 step.1 n p sound (subst (IsNoEnd n) (sym asked) other) made waits) h

-- the reply to a request leaves the tickets of variables
changed_tickets : (change : Change (List ℕ)) (p : ℕ) (reply : Reply) (variables : Variables) → (changed change p reply variables).tickets ≡ variables.tickets
changed_tickets change.Nothing p reply variables = refl
changed_tickets (change.Sets variable) p reply variables = refl
changed_tickets (change.SetsFor to variable) p reply variables = refl
changed_tickets (change.GivesUp variable) p reply variables = go (is_success reply.status)
  where
    go : (b : Bool) → (cond b (with_variable variables p variable 0) variables).tickets ≡ variables.tickets
    go true = refl
    go false = refl
changed_tickets change.GivesAllUp p reply variables = go (is_success reply.status)
  where
    go : (b : Bool) → (cond b (without_variables variables p) variables).tickets ≡ variables.tickets
    go true = refl
    go false = refl
changed_tickets (change.TurnsPage variable) p reply variables = go reply.given
  where
    go : (given : Given) → (with_page variables p variable given).tickets ≡ variables.tickets
    go given.Nothing = refl
    go (given.Handle value) = refl
    go (given.Text text) = refl
    go (given.Process number values) = refl
    go (given.Page entries context) = refl
changed_tickets (change.SetsProcess variable inherit) p reply variables = go reply.given
  where
    go : (given : Given) → (with_child variables p variable inherit given).tickets ≡ variables.tickets
    go given.Nothing = refl
    go (given.Handle value) = refl
    go (given.Text text) = refl
    go (given.Process number values) = refl
    go (given.Page entries context) = refl

pub answered_waiting : (s t : Space) (variables : Variables) (p : ℕ) (request : Request (List ℕ)) (c : Command StandardKind) (steps : Steps) (reply : Reply) (tickets : List ℕ) → IsSound s
    → Completes standard (Start p c) steps s reply t → AreWaiting s variables tickets → AreWaiting t (variables_after request p reply variables) tickets
answered_waiting s t variables p request c steps reply tickets sound chain waiting =
    same_waiting t variables (variables_after request p reply variables) tickets (changed_tickets (change_of request) p reply variables)
    (moved_waiting s t variables tickets (λ n q waits. completes_goes_on (Start p c) steps s t reply n q sound tt waits chain) waiting)

pub unanswered_waiting : (s t : Space) (variables : Variables) (p : ℕ) (request : Request (List ℕ)) (steps : Steps) (tickets : List ℕ) → IsSound s
    → WantsMemory request p variables steps s t → AreWaiting s variables tickets → AreWaiting t variables tickets
unanswered_waiting s t variables p request steps tickets sound (inl (none, same, grows)) waiting = subst (λ x. AreWaiting x variables tickets) (sym same) waiting
unanswered_waiting s t variables p request steps tickets sound (inr (c, command, falters)) waiting =
    moved_waiting s t variables tickets (λ n q waits. falters_goes_on (Start p c) steps s t n q sound tt waits falters) waiting

-- ---- a line of an open that waits, whatever it is

-- where it found no memory: nothing waits anew, and the open of an `end` is given up, or waits on
pub begin_stopped : (s t : Space) (variables variables' : Variables) (p : ℕ) (want : Option KindForm) (name : NameForm (List ℕ)) (attrs : ℕ) (variable : List ℕ) (steps : Steps) (tickets : List ℕ) → IsSound s
    → FindsNone (pending.Begin want name attrs variable) variables p steps s t variables' → AreWaiting s variables tickets → AreWaiting t variables' tickets
begin_stopped s t variables variables' p want name attrs variable steps tickets sound (none, same) waiting =
    same_waiting t variables variables' tickets (ap (λ (w : Variables). w.tickets) same) (go none)
  where
    go : ((steps ≡ []) × (t ≡ s)) ⊎ ((c : Command StandardKind) × IsOpenObject want name attrs (variables.values p) c × Falters standard (Start p c) steps s t) → AreWaiting t variables tickets
    go (inl (none, same)) = subst (λ x. AreWaiting x variables tickets) (sym same) waiting
    go (inr (c, command, falters)) = moved_waiting s t variables tickets (λ n q waits. falters_goes_on (Start p c) steps s t n q sound tt waits falters) waiting

pub end_untouched : (s t : Space) (variables variables' : Variables) (steps : Steps) (tickets : List ℕ) → (steps ≡ []) × (t ≡ s) × (variables' ≡ variables) → AreWaiting s variables tickets → AreWaiting t variables' tickets
end_untouched s t variables variables' steps tickets (none, same, left) waiting =
    same_waiting t variables variables' tickets (ap (λ (w : Variables). w.tickets) left) (subst (λ x. AreWaiting x variables tickets) (sym same) waiting)

pub end_given_up : (s t : Space) (variables variables' : Variables) (p : ℕ) (variable : List ℕ) (steps : Steps) (tickets : List ℕ) → IsSound s → variables.tickets p variable ≢ 0
    → GivesUp standard (variables.tickets p variable) steps s t × (variables' ≡ with_ticket variables p variable 0) → AreWaiting s variables tickets → AreWaiting t variables' (without (variables.tickets p variable) tickets)
end_given_up s t variables variables' p variable steps tickets sound some (gives_up, left) waiting =
    cleared_waiting s t variables variables' p variable tickets some
    (subst (λ h. IsSet variables.tickets h p variable 0) (sym (ap (λ (w : Variables). w.tickets) left)) (is_set variables.tickets p variable 0))
    (λ n q other waits. gives_up_goes_on (variables.tickets p variable) steps s t n q sound other waits gives_up) waiting

pub stopped_waiting : (s t : Space) (variables variables' : Variables) (p : ℕ) (line : PendingForm (List ℕ)) (steps : Steps) (tickets : List ℕ) → IsSound s → MakesStep line p variables
    → FindsNone line variables p steps s t variables' → AreWaiting s variables tickets → (left : List ℕ) × AreWaiting t variables' left
stopped_waiting s t variables variables' p (pending.Begin want name attrs variable) steps tickets sound makes h waiting =
    (tickets, begin_stopped s t variables variables' p want name attrs variable steps tickets sound h waiting)
stopped_waiting s t variables variables' p (pending.End variable) steps tickets sound makes (inl none) waiting = (tickets, end_untouched s t variables variables' steps tickets none waiting)
stopped_waiting s t variables variables' p (pending.End variable) steps tickets sound makes (inr given) waiting =
    (without (variables.tickets p variable) tickets, end_given_up s t variables variables' p variable steps tickets sound (end_some variables p variable makes) given waiting)
stopped_waiting s t variables variables' p (pending.Drop variable) steps tickets sound makes h waiting = absurd h

-- where it made its step
pub carried_waiting : (s t : Space) (variables : Variables) (p : ℕ) (line : PendingForm (List ℕ)) (event : Event StandardKind) (a : Answer) (tickets : List ℕ) → IsSound s → MakesStep line p variables
    → IsEvent line variables p event → Step standard s event a t → AreWaiting s variables tickets → (left : List ℕ) × AreWaiting t (variables_answered variables p (variable_of line) a) left
carried_waiting s t variables p (pending.Begin want name attrs variable) event a tickets sound makes (c, command, is) step waiting =
    (with_answer a tickets, begin_waiting s t variables p variable c a tickets sound (begin_free variables p want name attrs variable makes) (subst (λ e. Step standard s e a t) is step) waiting)
carried_waiting s t variables p (pending.End variable) event a tickets sound makes (parse, ran, is) step waiting =
    (with_answer a (without (variables.tickets p variable) tickets), end_waiting s t variables p variable parse a tickets sound (end_some variables p variable makes) (subst (λ e. Step standard s e a t) is step) waiting)
carried_waiting s t variables p (pending.Drop variable) event (Done reply) tickets sound makes is step waiting = (
  without (variables.tickets p variable) tickets,
  dropped_waiting s t variables (variables_answered variables p variable (Done reply)) p variable run.Unrun (Done reply) tickets sound (drop_some variables p variable makes) refl (subst (λ e. Step standard s e (Done reply) t) is step) waiting,
)
carried_waiting s t variables p (pending.Drop variable) event (Ticket m) tickets sound makes is step waiting =
    absurd (no_ticket (pending_of s (variables.tickets p variable)) made.2)
  where
    made : Step standard s (Abandon (variables.tickets p variable) run.Unrun) (Ticket m) t
    made = subst (λ e. Step standard s e (Ticket m) t) is step

    no_ticket : (found : Option (PendingOpen StandardKind)) → MatchOption found ⊥ (λ x. Abandons standard s x made.0 (Ticket m) t) → ⊥
    no_ticket None h = h
    no_ticket (Some x) h = let e : Ticket m ≡ answers Success = h.0 in cc

-- ---- sound states

pub wanting_sound : (s t : Space) (variables : Variables) (p : ℕ) (request : Request (List ℕ)) (steps : Steps) → IsSound s → WantsMemory request p variables steps s t → IsSound t
wanting_sound s t variables p request steps sound (inl (none, same, grows)) = subst IsSound (sym same) sound
wanting_sound s t variables p request steps sound (inr (c, command, falters)) = falters_sound standard (Start p c) steps s t sound falters

pub stopped_sound : (s t : Space) (variables variables' : Variables) (p : ℕ) (line : PendingForm (List ℕ)) (steps : Steps) → IsSound s → FindsNone line variables p steps s t variables' → IsSound t
stopped_sound s t variables variables' p (pending.Begin want name attrs variable) steps sound (inl (none, same), left) = subst IsSound (sym same) sound
stopped_sound s t variables variables' p (pending.Begin want name attrs variable) steps sound (inr (c, command, falters), left) = falters_sound standard (Start p c) steps s t sound falters
stopped_sound s t variables variables' p (pending.End variable) steps sound (inl (none, same, left)) = subst IsSound (sym same) sound
stopped_sound s t variables variables' p (pending.End variable) steps sound (inr (gives_up, left)) = gives_up_sound standard (variables.tickets p variable) steps s t sound gives_up
stopped_sound s t variables variables' p (pending.Drop variable) steps sound h = absurd h

-- at first no open waits
pub first_waiting : (s : Space) → AreWaiting s first_variables []
first_waiting s = record {
  listed = record { rising = λ i j d before below. absurd (omega (arith, below)); held = All-nil (IsUnderVariable first_variables.tickets); all = λ p w. inl refl };
  theirs = λ p w. inl refl;
  apart = λ p q a b e. inl refl;
}

-- ---- the parses that are kept

pub unanswered_await : (s t : Space) (variables : Variables) (p : ℕ) (request : Request (List ℕ)) (steps : Steps) (parses : List (ToRun StandardFace)) → IsSound s
    → WantsMemory request p variables steps s t → AreAwaited s parses → AreAwaited t parses
unanswered_await s t variables p request steps parses sound (inl (none, same, grows)) awaited = subst (λ x. AreAwaited x parses) (sym same) awaited
unanswered_await s t variables p request steps parses sound (inr (c, command, falters)) awaited = falters_all_await standard p c steps s t parses sound falters awaited
