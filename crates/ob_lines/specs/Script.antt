-- Scripts: the forms of a script's lines, in order.
--
-- Source: this profile.
use Rattle.std.specs.Prelude.{◌≡◌, ℕ, ◌≤◌, List, [], ◌∷◌, length, take, Option, None, Some}
use Rattle.std.specs.Borrow.{Bor}
use Rattle.ob_lines.specs.declared.form.Form.{Form}
use Rattle.ob_lines.specs.Lines.{lines_of}
use Rattle.ob_lines.specs.Grammar.{IsLine, form_seen}

-- the forms of lines in order: none where a line is no script line
abbrev pub Forms : Type 0
Forms = List (Option (Form (List ℕ)))

-- the line is of this form; none: it is no script line
abbrev pub HasForm : List ℕ → Option (Form (List ℕ)) → Type 0
HasForm line None = (form : Form (List ℕ)) → ¬ IsLine line form
HasForm line (Some form) = IsLine line form

-- the first line of the script is of this form, and the rest's lines are those after it
abbrev pub BeginsWithLine : List ℕ → Option (Form (List ℕ)) → List ℕ → Type 0
BeginsWithLine script form rest = (line : List ℕ) × (lines_of script ≡ line ∷ lines_of rest) × HasForm line form

-- the lines of the script from its first on are of these forms, and the rest's lines are those after them
abbrev pub BeginsWithForms : List ℕ → Forms → List ℕ → Type 0
BeginsWithForms script [] rest = script ≡ rest
BeginsWithForms script (form ∷ forms) rest = (behind : List ℕ) × BeginsWithLine script form behind × BeginsWithForms behind forms rest

-- the script has a reading: its lines, from the first to the last, are of some forms
abbrev pub HasReading : List ℕ → Type 0
HasReading script = (forms : Forms) × BeginsWithForms script forms []

-- two readings of a script agree as far as both go
abbrev pub ScriptsHaveOneReading : Type 0
ScriptsHaveOneReading =
    (script x y : List ℕ) (a b : Forms) → BeginsWithForms script a x → BeginsWithForms script b y → length a ≤ length b → a ≡ take (length a) b

-- a form that was found, or none, whose slices of bytes are seen as the lists that they hold
abbrev pub found_seen : Option (Form (Bor (List ℕ))) → Option (Form (List ℕ))
found_seen None = None
found_seen (Some form) = Some (form_seen form)
