-- What a session keeps after a line of an open that waits.
use Rattle.std.proofs.Common.{◌≡◌, ◌≢◌, ◌∙◌, ℕ, ◌==◌, Bool, true, false, not, cond, List, ◌⊎◌, inl, inr, Option, Some, None, Result, Ok, Err, IfOk, OnErr, refl, ap, sym, subst, eqb-true}
use Rattle.std.specs.Prelude.{codes}
use Rattle.ob_base.specs.declared.status.Status.TheVariants.{Success}
use Rattle.ob_model.specs.declared.reply.Event.TheVariants.{Abandon}
use Rattle.ob_model.specs.declared.reply.ParseRun.TheVariants as run
use Rattle.ob_model.specs.Refusals.{answers}
use Rattle.ob_model.specs.Sound.{IsSound}
use Rattle.ob_model.specs.Step.{Step}
use Rattle.ob_runner.specs.declared.begun.Begun.{Begun}
use Rattle.ob_runner.specs.Begun.{answer_in, with_begun, without}
use Rattle.ob_parts.specs.declared.kind.KindForm.{KindForm}
use Rattle.ob_lines.specs.declared.pending.PendingForm.TheVariants as pending
use Rattle.ob_parts.specs.declared.name.NameForm.{NameForm}
use Rattle.ob_requests.specs.Variables.{Variables, with_variable, with_ticket}
use Rattle.ob_standard.specs.Standard.{standard}
use Rattle.ob_standard_core.specs.Machine.{Space}
use Rattle.ob_effects.specs.Effects.{MakesStep, IsCarried, IsStopped}
use Rattle.ob_effects.specs.Kept.{AreWaiting}
use Rattle.ob_effects.specs.Waiting.{variables_answered}
use Rattle.ob_effects.proofs.Awaiting.{begin_stopped, begin_waiting, begun_tickets, dropped_waiting, end_given_up, end_untouched, end_waiting, none_held, with_answer}

-- ---- which lines make a step

some_waits : (n : ℕ) → n ≢ 0 → cond (not (n == 0)) None (Some (codes "NO PENDING")) ≡ None
some_waits n some = go (n == 0) refl
  where
    go : (b : Bool) → (n == 0) ≡ b → cond (not b) None (Some (codes "NO PENDING")) ≡ None
    go true is = absurd (some (eqb-true n 0 is))
    go false is = refl

pub makes_end : (variables : Variables) (p : ℕ) (variable : List ℕ) → variables.tickets p variable ≢ 0 → MakesStep (pending.End variable) p variables
makes_end variables p variable some = some_waits (variables.tickets p variable) some

pub makes_drop : (variables : Variables) (p : ℕ) (variable : List ℕ) → variables.tickets p variable ≢ 0 → MakesStep (pending.Drop variable) p variables
makes_drop variables p variable some = some_waits (variables.tickets p variable) some

-- a number that is reported, and isn't 0
pub not_none : (n m : ℕ) → m ≢ 0 → m ≡ n → n ≢ 0
not_none n m some same none = some (same ∙ none)

-- ---- what waits after the line

-- variables and tickets that are reported
told_waiting : (s : Space) (variables variables' : Variables) (tickets left : List ℕ) → variables' ≡ variables → left ≡ tickets → AreWaiting s variables tickets → AreWaiting s variables' left
told_waiting s variables variables' tickets left same told waiting = subst (λ w. AreWaiting s w left) (sym same) (subst (AreWaiting s variables) (sym told) waiting)

pub begin_keeps : {E : Type 0} (r : Result Begun E) (s s' : Space) (variables variables' : Variables) (p : ℕ) (want : Option KindForm) (name : NameForm (List ℕ)) (attrs : ℕ) (variable : List ℕ) (tickets left : List ℕ)
    → IsSound s → AreWaiting s variables tickets → variables.tickets p variable ≡ 0
    → IfOk r (λ begun. IsCarried (pending.Begin want name attrs variable) p variables s (answer_in begun) variables' s') → IfOk r (λ begun. left ≡ with_begun begun tickets)
    → OnErr r (IsStopped (pending.Begin want name attrs variable) p variables s variables' s') → OnErr r (left ≡ tickets) → AreWaiting s' variables' left
begin_keeps (Ok begun) s s' variables variables' p want name attrs variable tickets left sound waiting free ((event, (c, command, is), step), w) told stopped kept =
    told_waiting s' (variables_answered variables p variable (answer_in begun)) variables' (with_answer (answer_in begun) tickets) left w (told ∙ begun_tickets begun tickets)
    (begin_waiting s s' variables p variable c (answer_in begun) tickets sound free (subst (λ e. Step standard s e (answer_in begun) s') is step) waiting)
begin_keeps (Err fault) s s' variables variables' p want name attrs variable tickets left sound waiting free carried told (steps, none) kept =
    subst (AreWaiting s' variables') (sym kept) (begin_stopped s s' variables variables' p want name attrs variable steps tickets sound none waiting)

-- both of what a line may have left
cleared_twice : {Goal : Type 0} (variables variables' : Variables) (p : ℕ) (variable : List ℕ) → variables.tickets p variable ≢ 0 → variables' ≡ variables → variables' ≡ with_ticket variables p variable 0 → Goal
cleared_twice variables variables' p variable some same cleared =
    absurd (some (ap (λ (w : Variables). w.tickets p variable) (sym same ∙ cleared) ∙ none_held variables p variable))

pub end_keeps : {E : Type 0} (r : Result Begun E) (s s' : Space) (variables variables' : Variables) (p : ℕ) (variable : List ℕ) (tickets left : List ℕ)
    → IsSound s → AreWaiting s variables tickets → variables.tickets p variable ≢ 0
    → IfOk r (λ begun. IsCarried (pending.End variable) p variables s (answer_in begun) variables' s') → IfOk r (λ begun. left ≡ with_begun begun (without (variables.tickets p variable) tickets))
    → OnErr r (IsStopped (pending.End variable) p variables s variables' s')
    → OnErr r (((variables' ≡ variables) × (left ≡ tickets)) ⊎ ((variables' ≡ with_ticket variables p variable 0) × (left ≡ without (variables.tickets p variable) tickets))) → AreWaiting s' variables' left
end_keeps (Ok begun) s s' variables variables' p variable tickets left sound waiting some ((event, (parse, ran, is), step), w) told stopped kept =
    told_waiting s' (variables_answered variables p variable (answer_in begun)) variables' (with_answer (answer_in begun) (without (variables.tickets p variable) tickets)) left w
    (told ∙ begun_tickets begun (without (variables.tickets p variable) tickets))
    (end_waiting s s' variables p variable parse (answer_in begun) tickets sound some (subst (λ e. Step standard s e (answer_in begun) s') is step) waiting)
end_keeps (Err fault) s s' variables variables' p variable tickets left sound waiting some carried told (steps, inl none) (inl (same, kept)) =
    subst (AreWaiting s' variables') (sym kept) (end_untouched s s' variables variables' steps tickets none waiting)
end_keeps (Err fault) s s' variables variables' p variable tickets left sound waiting some carried told (steps, inr none) (inr (same, kept)) =
    subst (AreWaiting s' variables') (sym kept) (end_given_up s s' variables variables' p variable steps tickets sound some none waiting)
end_keeps (Err fault) s s' variables variables' p variable tickets left sound waiting some carried told (steps, inl none) (inr (same, kept)) = cleared_twice variables variables' p variable some none.2 same
end_keeps (Err fault) s s' variables variables' p variable tickets left sound waiting some carried told (steps, inr none) (inl (same, kept)) = cleared_twice variables variables' p variable some same none.1

pub drop_keeps : (s s' : Space) (variables variables' : Variables) (p : ℕ) (variable : List ℕ) (n : ℕ) (tickets left : List ℕ) → IsSound s → AreWaiting s variables tickets → n ≡ variables.tickets p variable → n ≢ 0
    → variables' ≡ with_variable (with_ticket variables p variable 0) p variable 0 → left ≡ without n tickets → Step standard s (Abandon n run.Unrun) (answers Success) s' → AreWaiting s' variables' left
drop_keeps s s' variables variables' p variable n tickets left sound waiting is some w told step =
    let step_there : Step standard s (Abandon (variables.tickets p variable) run.Unrun) (answers Success) s' = subst (λ k. Step standard s (Abandon k run.Unrun) (answers Success) s') is step in
    subst (AreWaiting s' variables') (sym (told ∙ ap (λ k. without k tickets) is))
    (dropped_waiting s s' variables variables' p variable run.Unrun (answers Success) tickets sound (λ none. some (is ∙ none)) (ap (λ (x : Variables). x.tickets) w) step_there waiting)
