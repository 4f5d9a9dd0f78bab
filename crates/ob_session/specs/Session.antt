-- A session: its lines are performed one after another, and each is answered, by a line of output, by none, or by the lines of a tree, before the next one
-- is taken.
--
-- Source: this profile.
use Rattle.std.specs.Prelude.{◌≡◌, ◌⊎◌, ℕ, ◌+◌, ◌-◌, ◌^◌, Bool, true, false, List, [], ◌∷◌, ◌++◌, length, Option, IfSome, codes}
use Rattle.std.specs.Io.KnownBytes.{Appends, Keeps}
use Rattle.std.specs.Str.{bytes_eq}
use Rattle.ob_model.specs.Opening.{opening}
use Rattle.ob_model.specs.Run.{Run}
use Rattle.ob_standard.specs.Standard.{Standard, standard, IsFresh}
use Rattle.ob_survey.specs.Surveying.{survey_of}
use Rattle.ob_tree.specs.Tree.{tree_of}
use Rattle.ob_tree.specs.declared.style.Style.TheVariants.{Boxes}
use Rattle.ob_lines.specs.declared.form.Form.{Form}
use Rattle.ob_lines.specs.declared.misfit.Misfit.{Misfit}
use Rattle.ob_lines.specs.Lines.{lines_of}
use Rattle.ob_lines.specs.Misfits.{IsMisfit}
use Rattle.ob_lines.specs.Script.{HasForm}
use Rattle.ob_requests.specs.Variables.{Variables, first_variables}
use Rattle.ob_effects.specs.Machine.{Space}
use Rattle.ob_effects.specs.declared.outcome.LineOutcome.{LineOutcome}
use Rattle.ob_effects.specs.declared.outcome.LineOutcome.TheVariants as outcome
use Rattle.ob_effects.specs.Effects.{IsDone}
use Rattle.ob_output.specs.Misfits.{misfit_text}
use Rattle.ob_output.specs.Printed.{output_line}
use Rattle.ob_scripts.specs.Running.{outcome_text}
use Rattle.ob_scripts.specs.Shown.{Entries, AreOfSeat0}
use Rattle.ob_output.specs.Writing.{AppendsFront}
use Rattle.ob_output.specs.declared.fault.ShellFault.{ShellFault}
use Rattle.ob_output.specs.declared.fault.ShellFault.TheVariants.{Read, Write, TooLong, Memory, Mismatch}
use Rattle.ob_session.specs.Taken.{TakesLine}

-- The answer to the line of this number is the text of its outcome; of a line that is no script line it says where the line stops.
abbrev pub IsAnswer : ℕ → List ℕ → LineOutcome → List ℕ → Type 0
IsAnswer number line outcome.Idle text = text ≡ outcome_text number outcome.Idle
IsAnswer number line (outcome.Counted counts) text = text ≡ outcome_text number (outcome.Counted counts)
IsAnswer number line (outcome.Replied reply) text = text ≡ outcome_text number (outcome.Replied reply)
IsAnswer number line outcome.Pending text = text ≡ outcome_text number outcome.Pending
IsAnswer number line (outcome.Told notice) text = text ≡ outcome_text number (outcome.Told notice)
IsAnswer number line outcome.NoLine text = (misfit : Misfit) × IsMisfit line misfit × (text ≡ output_line number (misfit_text misfit))
IsAnswer number line outcome.NoMemory text = text ≡ outcome_text number outcome.NoMemory

-- a line of a script, of this number, is performed with these variables and in this state, and answered by this text
pub record IsPerformed (number : ℕ) (line : List ℕ) (variables : Variables) (s : Space) (text : List ℕ) (variables' : Variables) (s' : Space) : Type 0 where
  pub form : Option (Form (List ℕ))
  pub formed : HasForm line form
  pub outcome : LineOutcome
  pub done : IsDone form variables s outcome variables' s'
  pub told : IsAnswer number line outcome text

-- the line `tree`, which is one of sessions alone
abbrev pub is_tree : List ℕ → Bool
is_tree line = bytes_eq line (codes "tree")

-- the answer to it: the tree of the state; or, where it found no memory, the line that says so
abbrev pub IsTreeOf : ℕ → Space → List ℕ → Type 0
IsTreeOf number s text = (text ≡ tree_of Boxes (survey_of standard s)) ⊎ (text ≡ outcome_text number outcome.NoMemory)

-- the line of this number is answered by this text: `tree`, which changes nothing; or a line of a script, which is performed
abbrev pub IsAnsweredAs : (tree : Bool) → ℕ → List ℕ → Variables → Space → List ℕ → Variables → Space → Type 0
IsAnsweredAs true number line variables s text variables' s' = IsTreeOf number s text × (variables' ≡ variables) × (s' ≡ s)
IsAnsweredAs false number line variables s text variables' s' = IsPerformed number line variables s text variables' s'

abbrev pub IsAnswered : ℕ → List ℕ → Variables → Space → List ℕ → Variables → Space → Type 0
IsAnswered number line variables s text variables' s' = IsAnsweredAs (is_tree line) number line variables s text variables' s'

-- lines, the first of this number, are performed one after another, and their answers in a row are the output
abbrev pub AreAnswered : ℕ → List (List ℕ) → Variables → Space → List ℕ → Variables → Space → Type 0
AreAnswered number [] variables s output variables' s' = (output ≡ []) × (variables' ≡ variables) × (s' ≡ s)
AreAnswered number (line ∷ lines) variables s output variables' s' =
    (text : List ℕ) × (rest : List ℕ) × (w : Variables) × (t : Space) × IsAnswered number line variables s text w t × (output ≡ text ++ rest)
    × AreAnswered (number + 1) lines w t rest variables' s'

-- a turn: the reader's next line is taken, and its answer is written; or the reader has none, and nothing is done
abbrev pub IsTurn : (there : Bool) → ℕ → (left left' : Option (List ℕ)) → Variables → Space → (written written' : Option (List ℕ)) → Variables → Space → Type 0
IsTurn true number left left' variables s written written' variables' s' =
    (line : List ℕ) × (text : List ℕ) × TakesLine true left left' line × IsAnswered number line variables s text variables' s' × Appends written written' text
IsTurn false number left left' variables s written written' variables' s' =
    TakesLine false left left' [] × Keeps written written' × (variables' ≡ variables) × (s' ≡ s)

-- a turn that a fault cut: of a reading, before the line was performed; or of a write, after which a beginning of the answer was written
abbrev pub IsTurnCut : ShellFault → ℕ → (left : Option (List ℕ)) → Variables → Space → (written written' : Option (List ℕ)) → Type 0
IsTurnCut (Read unread) number left variables s written written' = Keeps written written'
IsTurnCut Memory number left variables s written written' = Keeps written written'
IsTurnCut (Write unwritten) number left variables s written written' =
    (line : List ℕ) × (text : List ℕ) × (variables' : Variables) × (s' : Space) × IfSome left (λ bytes. (rest : List ℕ) × (lines_of bytes ≡ line ∷ lines_of rest))
    × IsAnswered number line variables s text variables' s' × AppendsFront written written' text
IsTurnCut TooLong number left variables s written written' = ⊥
IsTurnCut Mismatch number left variables s written written' = ⊥

-- all lines of the input, where that is known, were answered from these variables and this state on
abbrev pub HasAnswered : Variables → Space → (input written written' : Option (List ℕ)) → Variables → Space → Type 0
HasAnswered variables s input written written' variables' s' =
    (lines : List (List ℕ)) × (output : List ℕ) × AreAnswered 1 lines variables s output variables' s' × Appends written written' output × IfSome input (λ bytes. lines_of bytes ≡ lines)

-- A session to the end of its input: from the opening state of a set that has counted nothing, all its lines were answered.
abbrev pub IsConversation : (input written written' : Option (List ℕ)) → Type 0
IsConversation input written written' =
    (first : Standard) × (variables : Variables) × (s : Space) × IsFresh first × HasAnswered first_variables (opening first) input written written' variables s

-- the first lines of the input were answered from the opening state on, to these variables and this state, by this output
abbrev pub IsBegun : (input : Option (List ℕ)) → List (List ℕ) → List ℕ → Variables → Space → Type 0
IsBegun input lines output variables s =
    (first : Standard) × IsFresh first × AreAnswered 1 lines first_variables (opening first) output variables s
    × IfSome input (λ bytes. (rest : List ℕ) × (lines_of bytes ≡ lines ++ lines_of rest))

-- the first lines of the input were answered from the opening state on, by this output
abbrev pub BeginsBy : (input : Option (List ℕ)) → List ℕ → Type 0
BeginsBy input output = (lines : List (List ℕ)) × (variables : Variables) × (s : Space) × IsBegun input lines output variables s

-- the most lines that a session answers
abbrev pub most_lines : ℕ
most_lines = 2 ^ 64 - 2

-- A session that a fault ended: the lines taken before are answered whole; after a fault of a write, a beginning of the output of one more is
-- written too. At `Memory` there may have been no session yet, and `TooLong` comes after the most lines alone.
abbrev pub IsConversationCut : ShellFault → (input written written' : Option (List ℕ)) → Type 0
IsConversationCut (Write unwritten) input written written' = (output : List ℕ) × BeginsBy input output × AppendsFront written written' output
IsConversationCut (Read unread) input written written' = (output : List ℕ) × BeginsBy input output × Appends written written' output
IsConversationCut Memory input written written' = Keeps written written' ⊎ ((output : List ℕ) × BeginsBy input output × Appends written written' output)
IsConversationCut TooLong input written written' =
    (lines : List (List ℕ)) × (output : List ℕ) × (variables : Variables) × (s : Space) × IsBegun input lines output variables s × (length lines ≡ most_lines)
    × Appends written written' output
IsConversationCut Mismatch input written written' = ⊥

-- what lines of a session do from the opening state on is a run of the abstract machine, whose entries are of seat 0
abbrev pub SessionsAreRuns : Type 0
SessionsAreRuns =
    (lines : List (List ℕ)) (first : Standard) (output : List ℕ) (variables : Variables) (s : Space) → IsFresh first → AreAnswered 1 lines first_variables (opening first) output variables s
    → (entries : Entries) × Run standard first entries s × AreOfSeat0 entries
