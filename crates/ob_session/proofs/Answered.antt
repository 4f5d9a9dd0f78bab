-- What a session answers to a line.
use Rattle.std.proofs.Common.{◌≡◌, ℕ, Bool, true, false, List, ◌∷◌, Option, Some, None, refl, sym, subst}
use Rattle.std.specs.Prelude.{IfSome}
use Rattle.ob_effects.specs.declared.outcome.LineOutcome.{LineOutcome}
use Rattle.ob_effects.specs.declared.outcome.LineOutcome.TheVariants as outcome
use Rattle.ob_effects.specs.Effects.{IsDone}
use Rattle.ob_effects.specs.Machine.{Space}
use Rattle.ob_lines.specs.declared.form.Form.{Form}
use Rattle.ob_lines.specs.declared.form.Form.TheVariants.{Nothing, Stat, Asks, Waits}
use Rattle.ob_lines.specs.Lines.{lines_of}
use Rattle.ob_lines.specs.Script.{HasForm}
use Rattle.ob_output.specs.Writing.{AppendsFront}
use Rattle.ob_output.specs.declared.fault.ShellFault.TheVariants.{Write}
use Rattle.ob_output.specs.declared.writing.Unwritten.{Unwritten}
use Rattle.ob_requests.specs.Variables.{Variables}
use Rattle.ob_scripts.specs.Running.{outcome_text}
use Rattle.ob_session.specs.Session.{IsAnswer, IsAnsweredAs, IsTreeOf, IsTurnCut, is_tree}
use Rattle.ob_session.specs.Taken.{TakesLine}

-- an outcome of another kind is answered by its text
pub other_answer : (number : ℕ) (line : List ℕ) (o : LineOutcome) → (o ≡ outcome.NoLine → ⊥) → IsAnswer number line o (outcome_text number o)
other_answer number line outcome.Idle other = refl
other_answer number line (outcome.Counted counts) other = refl
other_answer number line (outcome.Replied reply) other = refl
other_answer number line outcome.Pending other = refl
other_answer number line (outcome.Told notice) other = refl
other_answer number line outcome.NoLine other = absurd (other refl)
other_answer number line outcome.NoMemory other = refl

-- of no script line is the outcome `NoLine`
no_line_form : (form : Option (Form (List ℕ))) (variables variables' : Variables) (s s' : Space) → IsDone form variables s outcome.NoLine variables' s' → form ≡ None
no_line_form None variables variables' s s' done = refl
no_line_form (Some Nothing) variables variables' s s' (none, same_variables, same) = cc
no_line_form (Some Stat) variables variables' s s' (none, same_variables, same) = cc
no_line_form (Some (Asks process request)) variables variables' s s' done = absurd done
no_line_form (Some (Waits process pending)) variables variables' s s' done = absurd done

pub unformed : (form : Option (Form (List ℕ))) (line : List ℕ) (variables variables' : Variables) (s s' : Space) (o : LineOutcome) → HasForm line form
    → IsDone form variables s o variables' s' → o ≡ outcome.NoLine → HasForm line None
unformed form line variables variables' s s' o formed done is =
    let no_line : IsDone form variables s outcome.NoLine variables' s' = subst (λ x. IsDone form variables s x variables' s') is done in
    subst (HasForm line) (no_line_form form variables variables' s s' no_line) formed

-- the line that was taken is the first one
first_taken : (left left' : Option (List ℕ)) (line : List ℕ) → TakesLine true left left' line → IfSome left (λ bytes. (rest : List ℕ) × (lines_of bytes ≡ line ∷ lines_of rest))
first_taken None left' line taken = tt
first_taken (Some bytes) left' line (rest, left_is, first) = (rest, first)

-- a fault cut the answer to a line `tree`
pub tree_cut : (unwritten : Unwritten) (number : ℕ) (there : Bool) (left left' : Option (List ℕ)) (taken line : List ℕ) (variables : Variables) (s : Space) (written written' : Option (List ℕ))
    → TakesLine there left left' taken → there ≡ true → line ≡ taken → is_tree line ≡ true → (text : List ℕ) × IsTreeOf number s text × AppendsFront written written' text
    → IsTurnCut (Write unwritten) number left variables s written written'
tree_cut unwritten number there left left' taken line variables s written written' takes is_there same is (text, told, front) = (
  line,
  text,
  variables,
  s,
  first_taken left left' line (subst (TakesLine true left left') (sym same) (subst (λ t. TakesLine t left left' taken) is_there takes)),
  subst (λ t. IsAnsweredAs t number line variables s text variables s) (sym is) (told, refl, refl),
  front,
)

-- a fault cut the answer to a line of a script
pub line_cut : (unwritten : Unwritten) (number : ℕ) (there : Bool) (left left' : Option (List ℕ)) (taken line : List ℕ) (variables variables' : Variables) (s s' : Space) (written written' : Option (List ℕ)) (o : LineOutcome)
    → TakesLine there left left' taken → there ≡ true → line ≡ taken → is_tree line ≡ false → (form : Option (Form (List ℕ))) × HasForm line form × IsDone form variables s o variables' s'
    → (text : List ℕ) × IsAnswer number line o text × AppendsFront written written' text → IsTurnCut (Write unwritten) number left variables s written written'
line_cut unwritten number there left left' taken line variables variables' s s' written written' o takes is_there same other (form, formed, done) (text, told, front) = (
  line,
  text,
  variables',
  s',
  first_taken left left' line (subst (TakesLine true left left') (sym same) (subst (λ t. TakesLine t left left' taken) is_there takes)),
  subst (λ t. IsAnsweredAs t number line variables s text variables' s') (sym other) (record { form = form; formed = formed; outcome = o; done = done; told = told }),
  front,
)
