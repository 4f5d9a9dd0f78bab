-- What lines of a session do is a run, whatever becomes of each.
use Rattle.std.proofs.Common.{◌≡◌, ℕ, ◌+◌, List, [], ◌∷◌, ◌++◌, Bool, true, false, Option, Some, None, refl, subst}
use Rattle.ob_model.specs.declared.reply.Answer.TheVariants.{Done, Ticket}
use Rattle.ob_model.specs.declared.reply.Event.TheVariants.{Start}
use Rattle.ob_model.specs.Opening.{opening}
use Rattle.ob_model.specs.Run.{RunFrom}
use Rattle.ob_runner.proofs.Chains.{completes_run, entered, behind as count_behind}
use Rattle.ob_standard.specs.Standard.{standard}
use Rattle.ob_lines.specs.declared.form.Form.{Form}
use Rattle.ob_lines.specs.declared.form.Form.TheVariants.{Nothing, Stat, Asks, Waits}
use Rattle.ob_requests.specs.Variables.{Variables, first_variables}
use Rattle.ob_effects.specs.Machine.{Space}
use Rattle.ob_effects.specs.declared.outcome.LineOutcome.{LineOutcome}
use Rattle.ob_effects.specs.declared.outcome.LineOutcome.TheVariants as outcome
use Rattle.ob_effects.specs.Effects.{IsDone}
use Rattle.ob_effects.specs.Waiting.{Steps}
use Rattle.ob_scripts.specs.Shown.{Entries, AreOfSeat0}
use Rattle.ob_scripts.proofs.Finals.{wanting_run, stopped_run}
use Rattle.ob_scripts.proofs.Totals.{entered_seat}
use Rattle.ob_session.specs.Session.{AreAnswered, IsAnsweredAs, SessionsAreRuns, is_tree}

-- the steps of a line, after which a run goes on
abbrev Extends : Space → Space → Type 0
Extends s s' =
    (own : Steps) × ((count : ℕ) (entries : Entries) (t : Space) → RunFrom standard s' (count_behind count own) entries t → RunFrom standard s count (entered count own ++ entries) t)

-- a line that makes no step
stays : (s s' : Space) → s' ≡ s → Extends s s'
stays s s' same = ([], λ count entries t run. subst (λ x. RunFrom standard x count entries t) same run)

-- a line, whatever becomes of it
extends : (form : Option (Form (List ℕ))) (variables variables' : Variables) (s s' : Space) (o : LineOutcome) → IsDone form variables s o variables' s' → Extends s s'
extends None variables variables' s s' o (is, w, same) = stays s s' same
extends (Some Nothing) variables variables' s s' o (is, w, same) = stays s s' same
extends (Some Stat) variables variables' s s' o (is, w, same) = stays s s' same
extends (Some (Asks process request)) variables variables' s s' outcome.Idle d = absurd d
extends (Some (Asks process request)) variables variables' s s' (outcome.Counted counts) d = absurd d
extends (Some (Asks process request)) variables variables' s s' (outcome.Replied reply) ((c, own, command, chain), w) =
    (own, λ count entries t run. completes_run standard (Start (variables.processes process) c) own s s' reply count entries t chain run)
extends (Some (Asks process request)) variables variables' s s' outcome.Pending d = absurd d
extends (Some (Asks process request)) variables variables' s s' (outcome.Told notice) d = absurd d
extends (Some (Asks process request)) variables variables' s s' outcome.NoLine d = absurd d
extends (Some (Asks process request)) variables variables' s s' outcome.NoMemory ((own, wants), w) =
    (own, λ count entries t run. wanting_run s s' variables (variables.processes process) request own count wants entries t run)
extends (Some (Waits process line)) variables variables' s s' outcome.Idle d = absurd d
extends (Some (Waits process line)) variables variables' s s' (outcome.Counted counts) d = absurd d
extends (Some (Waits process line)) variables variables' s s' (outcome.Replied reply) (makes, ((event, asked, step), w)) =
    ((event, Done reply) ∷ [], λ count entries t run. (s', refl, step, run))
extends (Some (Waits process line)) variables variables' s s' outcome.Pending (makes, (n, ((event, asked, step), w))) =
    ((event, Ticket n) ∷ [], λ count entries t run. (s', refl, step, run))
extends (Some (Waits process line)) variables variables' s s' (outcome.Told notice) (told, w, same) = stays s s' same
extends (Some (Waits process line)) variables variables' s s' outcome.NoLine d = absurd d
extends (Some (Waits process line)) variables variables' s s' outcome.NoMemory (makes, (own, wants)) =
    (own, λ count entries t run. stopped_run s s' variables variables' (variables.processes process) line own count wants entries t run)

-- the same of `tree`, which makes no step
extends_as : (tree : Bool) (number : ℕ) (line : List ℕ) (variables variables' : Variables) (s s' : Space) (text : List ℕ) → IsAnsweredAs tree number line variables s text variables' s' → Extends s s'
extends_as true number line variables variables' s s' text (is, w, same) = stays s s' same
extends_as false number line variables variables' s s' text one = extends one.form variables variables' s s' one.outcome one.done

-- lines, after so many entries
extends_all : (lines : List (List ℕ)) (number : ℕ) (variables variables' : Variables) (s s' : Space) (output : List ℕ) (count : ℕ) → AreAnswered number lines variables s output variables' s'
    → (entries : Entries) × RunFrom standard s count entries s' × AreOfSeat0 entries
extends_all [] number variables variables' s s' output count (none, w, same) = ([], same, tt)
extends_all (line ∷ lines) number variables variables' s s' output count (text, rest, w, t, one, out, more) =
    let first = extends_as (is_tree line) number line variables w s t text one in
    let then = extends_all lines (number + 1) w variables' t s' rest (count_behind count first.0) more in
    (entered count first.0 ++ then.0, first.1 count then.0 s' then.1, entered_seat count first.0 then.0 then.2)

pub session_runs : SessionsAreRuns
session_runs lines first output variables s fresh answered = extends_all lines 1 first_variables variables (opening first) s output 0 answered
