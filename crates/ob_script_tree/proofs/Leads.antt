-- What lines leave, line by line.
use Rattle.std.proofs.Common.{◌≡◌, ℕ, ◌+◌, List, [], ◌∷◌, Option, None, Some, refl, sym, subst}
use Rattle.std.specs.Io.KnownBytes.{Appends}
use Rattle.ob_effects.specs.declared.outcome.LineOutcome.{LineOutcome}
use Rattle.ob_effects.specs.Effects.{IsDone}
use Rattle.ob_effects.specs.Kept.{IsFirst, space_of, variables_of}
use Rattle.ob_effects.specs.Machine.{Space}
use Rattle.ob_effects.specs.declared.session.Session.{Session}
use Rattle.ob_lines.specs.declared.form.Form.{Form}
use Rattle.ob_lines.specs.Lines.{lines_of}
use Rattle.ob_lines.specs.Script.{HasForm}
use Rattle.ob_output.specs.declared.fault.ShellFault.{ShellFault}
use Rattle.ob_output.specs.declared.fault.ShellFault.TheVariants as fault
use Rattle.ob_requests.specs.Variables.{Variables, first_variables}
use Rattle.ob_scripts.specs.Running.{outcome_end, outcome_text}
use Rattle.ob_scripts.specs.declared.run.Ending.{Ending}
use Rattle.ob_script_tree.specs.Drawing.{Continues, Draws, DrawsTo, IsCut, Leaves, Left, StopsDrawing, left_end, left_text, stopped, whole}
use Rattle.ob_script_tree.specs.declared.picture.Picture.{Picture}

-- no line leaves the state as it is
pub leaves_none : (rest : List ℕ) (number : ℕ) (w : Variables) (s : Space) → rest ≡ [] → Leaves number (lines_of rest) w s (whole s)
leaves_none rest number w s none = subst (λ r. Leaves number (lines_of r) w s (whole s)) (sym none) refl

module _ (rest line behind : List ℕ) (number : ℕ) (w v : Variables) (s t : Space) (form : Option (Form (List ℕ))) (outcome : LineOutcome)
    (found : lines_of rest ≡ line ∷ lines_of behind) (formed : HasForm line form) (done : IsDone form w s outcome v t) where
  one_line : (end : Option Ending) (left : Left) → outcome_end number outcome ≡ end → Continues end number outcome left (Leaves (number + 1) (lines_of behind) v t left)
      → Leaves number (lines_of rest) w s left
  one_line end left is next =
      let more : Continues (outcome_end number outcome) number outcome left (Leaves (number + 1) (lines_of behind) v t left) =
      subst (λ e. Continues e number outcome left (Leaves (number + 1) (lines_of behind) v t left)) (sym is) next in
      subst (λ ls. Leaves number ls w s left) (sym found) (form, outcome, v, t, formed, done, more)

  -- a line that ends no run leaves what the rest leaves
  pub leaves_more : None ≡ outcome_end number outcome → (left : Left) → Leaves (number + 1) (lines_of behind) v t left → Leaves number (lines_of rest) w s left
  leaves_more none left more = one_line None left (sym none) more

  -- one that does leaves its reply
  pub leaves_stopped : (end : Ending) → Some end ≡ outcome_end number outcome → Leaves number (lines_of rest) w s (stopped end (outcome_text number outcome))
  leaves_stopped end is = one_line (Some end) (stopped end (outcome_text number outcome)) (sym is) refl

-- ---- what a script leaves is drawn

module _ (picture : Picture) (script : List ℕ) (old new : Option (List ℕ)) (session : Session) (left : Left) (first : IsFirst session)
    (leaves : Leaves 1 (lines_of script) (variables_of session) (space_of session) left) where
  draws : Draws picture script (left_text picture left) (left_end left)
  draws = (
    first.1.0,
    left,
    first.1.1,
    subst (λ x. Leaves 1 (lines_of script) first_variables x left) first.1.2 (subst (λ x. Leaves 1 (lines_of script) x (space_of session) left) first.0 leaves),
    refl,
    refl,
  )

  -- whole
  pub drawn_by : Appends old new (left_text picture left) → DrawsTo picture old new script (left_end left)
  drawn_by appends = (left_text picture left, draws, appends)

  -- or as far as a fault lets it
  pub cut_by : (fault : ShellFault) → IsCut fault old new (left_text picture left) → StopsDrawing picture script fault old new
  cut_by (fault.Write unwritten) cut = (left_text picture left, left_end left, draws, cut)
  cut_by fault.Memory cut = cut
  cut_by (fault.Read unread) cut = cut
  cut_by fault.TooLong cut = cut
  cut_by fault.Mismatch cut = cut
