-- Forms: what a line of a seat is, and the forms of a seat's lines, in order.
--
-- A form is generic in how it holds bytes: in the code as slices of the line, here as lists.
-- Source: this profile.
use Rattle.std.specs.Prelude.{◌≡◌, ℕ, List, [], ◌∷◌, Option, None, Some}
use Rattle.std.specs.Borrow.{Bor}
use Rattle.ob_lines.specs.Lines.{lines_of}
use Rattle.ob_lines.specs.Grammar.{FormHasTexts, IsLine, form_seen}
use Rattle.ob_worker_lines.specs.declared.form.SeatForm.{SeatForm}
use Rattle.ob_worker_lines.specs.declared.form.SeatForm.TheVariants.{Seal, Line}
use Rattle.ob_worker_lines.specs.Cuts.{IsScriptLine, seal_line}

-- the line, without its LF, is of this form of a line of a seat
abbrev pub IsLineOfSeat : List ℕ → SeatForm (List ℕ) → Type 0
IsLineOfSeat line Seal = line ≡ seal_line
IsLineOfSeat line (Line form) = IsLine line form

-- a line of a seat has no two forms
abbrev pub SeatLinesHaveOneForm : Type 0
SeatLinesHaveOneForm = (line : List ℕ) (a b : SeatForm (List ℕ)) → IsLineOfSeat line a → IsLineOfSeat line b → a ≡ b

-- the line `seal` is no line of a script without workers
abbrev pub SealIsNoScriptLine : Type 0
SealIsNoScriptLine = ¬ IsScriptLine seal_line

-- the forms of lines in order: none where a line is no line of a seat
abbrev pub SeatForms : Type 0
SeatForms = List (Option (SeatForm (List ℕ)))

-- the line is of this form; none: it is no line of a seat
abbrev pub HasSeatForm : List ℕ → Option (SeatForm (List ℕ)) → Type 0
HasSeatForm line None = (form : SeatForm (List ℕ)) → ¬ IsLineOfSeat line form
HasSeatForm line (Some form) = IsLineOfSeat line form

-- the first line of the script is of this form, and the rest's lines are those that follow it
abbrev pub BeginsWithSeatLine : List ℕ → Option (SeatForm (List ℕ)) → List ℕ → Type 0
BeginsWithSeatLine script form rest = (line : List ℕ) × (lines_of script ≡ line ∷ lines_of rest) × HasSeatForm line form

-- the lines of the script from its first on are of these forms, and the rest's lines are those that follow them
abbrev pub BeginsWithSeatForms : List ℕ → SeatForms → List ℕ → Type 0
BeginsWithSeatForms script [] rest = script ≡ rest
BeginsWithSeatForms script (form ∷ forms) rest = (later : List ℕ) × BeginsWithSeatLine script form later × BeginsWithSeatForms later forms rest

-- the texts of a form, where it has some, are texts
abbrev pub SeatFormHasTexts : SeatForm (List ℕ) → Type 0
SeatFormHasTexts Seal = Unit {0}
SeatFormHasTexts (Line form) = FormHasTexts form

-- a form, whose slices of bytes are seen as the lists that they hold, and one that was found or not
abbrev pub seat_form_seen : SeatForm (Bor (List ℕ)) → SeatForm (List ℕ)
seat_form_seen Seal = Seal
seat_form_seen (Line form) = Line (form_seen form)

abbrev pub seat_found_seen : Option (SeatForm (Bor (List ℕ))) → Option (SeatForm (List ℕ))
seat_found_seen None = None
seat_found_seen (Some form) = Some (seat_form_seen form)
