-- The namespace that a script leaves, and the tree that is drawn of it.
--
-- Source: this profile.
use Rattle.std.specs.Prelude.{◌≡◌, ℕ, ◌+◌, List, [], ◌∷◌, Option, None, Some}
use Rattle.std.specs.Io.KnownBytes.{Appends}
use Rattle.ob_model.specs.Opening.{opening}
use Rattle.ob_standard.specs.Standard.{Standard, standard, IsFresh}
use Rattle.ob_survey.specs.Surveying.{survey_of}
use Rattle.ob_tree.specs.Surveyed.{Surveyed}
use Rattle.ob_tree.specs.Tree.{tree_of}
use Rattle.ob_tree_json.specs.Json.{json_of}
use Rattle.ob_lines.specs.declared.form.Form.{Form}
use Rattle.ob_lines.specs.Lines.{lines_of}
use Rattle.ob_lines.specs.Script.{HasForm}
use Rattle.ob_requests.specs.Variables.{Variables, first_variables}
use Rattle.ob_effects.specs.declared.outcome.LineOutcome.{LineOutcome}
use Rattle.ob_effects.specs.Effects.{IsDone}
use Rattle.ob_effects.specs.Machine.{Space}
use Rattle.ob_output.specs.Writing.{AppendsFront}
use Rattle.ob_output.specs.declared.fault.ShellFault.{ShellFault}
use Rattle.ob_output.specs.declared.fault.ShellFault.TheVariants as fault
use Rattle.ob_scripts.specs.Running.{outcome_end, outcome_text}
use Rattle.ob_scripts.specs.declared.run.Ending.{Ending}
use Rattle.ob_scripts.specs.declared.run.Ending.TheVariants as ending
use Rattle.ob_script_tree.specs.declared.leaving.Stop.{Stop}
use Rattle.ob_script_tree.specs.declared.picture.Picture.{Picture}
use Rattle.ob_script_tree.specs.declared.picture.Picture.TheVariants.{Lines, Json}

-- the text of a tree in this form
abbrev pub picture_of : Picture → Surveyed → List ℕ
picture_of (Lines style) seen = tree_of style seen
picture_of Json seen = json_of seen

-- what a script leaves: the state after its last line; or the ending at an earlier one, and the reply that says so
pub data Left : Type 0 where
  whole : Space → Left
  stopped : Ending → List ℕ → Left

-- after a line of this number with this outcome: it ends the run; or what the rest leaves is left
abbrev pub Continues : Option Ending → ℕ → LineOutcome → Left → Type 0 → Type 0
Continues None number outcome left Rest = Rest
Continues (Some end) number outcome left Rest = left ≡ stopped end (outcome_text number outcome)

-- lines, the first of this number, are performed one after another, with these variables and in this state at first, and leave this
abbrev pub Leaves : ℕ → List (List ℕ) → Variables → Space → Left → Type 0
Leaves number [] variables s left = left ≡ whole s
Leaves number (line ∷ lines) variables s left =
    (form : Option (Form (List ℕ))) × (outcome : LineOutcome) × (variables' : Variables) × (s' : Space) × HasForm line form
    × IsDone form variables s outcome variables' s' × Continues (outcome_end number outcome) number outcome left (Leaves (number + 1) lines variables' s' left)

-- what a run left that a line ended, or that none did, and that is in this state
abbrev pub left_by : Option Stop → Space → Left
left_by None s = whole s
left_by (Some stop) s = stopped stop.ending (outcome_text stop.number stop.outcome)

-- what is written of it, and how the run ended
abbrev pub left_text : Picture → Left → List ℕ
left_text picture (whole s) = picture_of picture (survey_of standard s)
left_text picture (stopped end text) = text

abbrev pub left_end : Left → Ending
left_end (whole s) = ending.Done
left_end (stopped end text) = end

-- a script is drawn so: its lines are performed from the opening state on, of a set that has counted nothing, and what they leave is
-- written; the run ended so
abbrev pub Draws : Picture → List ℕ → List ℕ → Ending → Type 0
Draws picture script output end =
    (first : Standard) × (left : Left) × IsFresh first × Leaves 1 (lines_of script) first_variables (opening first) left
    × (output ≡ left_text picture left) × (end ≡ left_end left)

-- what was written to a writer is how the script is drawn, and the run ended so
abbrev pub DrawsTo : Picture → Option (List ℕ) → Option (List ℕ) → List ℕ → Ending → Type 0
DrawsTo picture old new script end = (output : List ℕ) × Draws picture script output end × Appends old new output

-- what was written is a beginning of that
abbrev pub DrawsPartTo : Picture → Option (List ℕ) → Option (List ℕ) → List ℕ → Type 0
DrawsPartTo picture old new script = (output : List ℕ) × (end : Ending) × Draws picture script output end × AppendsFront old new output

-- what a fault left of a text that was to be written: a beginning after a fault of the writer, nothing after a lack of memory; no other fault comes
abbrev pub IsCut : ShellFault → Option (List ℕ) → Option (List ℕ) → List ℕ → Type 0
IsCut (fault.Write unwritten) old new text = AppendsFront old new text
IsCut fault.Memory old new text = new ≡ old
IsCut (fault.Read unread) old new text = ⊥
IsCut fault.TooLong old new text = ⊥
IsCut fault.Mismatch old new text = ⊥

-- what a fault left of the drawing of a script
abbrev pub StopsDrawing : Picture → List ℕ → ShellFault → Option (List ℕ) → Option (List ℕ) → Type 0
StopsDrawing picture script (fault.Write unwritten) old new = DrawsPartTo picture old new script
StopsDrawing picture script fault.Memory old new = new ≡ old
StopsDrawing picture script (fault.Read unread) old new = ⊥
StopsDrawing picture script fault.TooLong old new = ⊥
StopsDrawing picture script fault.Mismatch old new = ⊥
