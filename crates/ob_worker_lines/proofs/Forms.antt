-- A text of lines of a seat has a reading.
use Rattle.std.proofs.Common.{◌≡◌, inl, inr, ℕ, Bool, true, false, cond, eqb, List, [], ◌∷◌, map, Some, refl, sym, ap, subst, ◌∙◌}
use Rattle.ob_lines.specs.Grammar.{IsLine}
use Rattle.ob_lines.specs.Lines.{line_end, lines_of, onto_first_line}
use Rattle.ob_lines.proofs.LineForms.{line_alike}
use Rattle.ob_worker_lines.specs.declared.form.SeatForm.{SeatForm}
use Rattle.ob_worker_lines.specs.declared.form.SeatForm.TheVariants.{Seal, Line}
use Rattle.ob_worker_lines.specs.Cuts.{Lines, IsSeatLine, AreSeatLines}
use Rattle.ob_worker_lines.specs.Forms.{BeginsWithSeatForms, IsLineOfSeat, SeatLinesHaveOneForm}
use Rattle.ob_worker_lines.specs.Parts.{LinesAreRead}
use Rattle.ob_worker_lines.proofs.Apart.{seal_no_script_line}

-- a line of a seat has a form, and what has one is a line of a seat
pub form_of_seat : (line : List ℕ) → IsSeatLine line → (form : SeatForm (List ℕ)) × IsLineOfSeat line form
form_of_seat line (inl (form, is)) = (Line form, is)
form_of_seat line (inr is) = (Seal, is)

pub seat_line_of : (line : List ℕ) (form : SeatForm (List ℕ)) → IsLineOfSeat line form → IsSeatLine line
seat_line_of line Seal is = inr is
seat_line_of line (Line form) is = inl (form, is)

-- it has no two
pub seat_line_alike : SeatLinesHaveOneForm
seat_line_alike line Seal Seal is is' = refl
seat_line_alike line Seal (Line form) is is' = absurd (seal_no_script_line (form, subst (λ l. IsLine l form) is is'))
seat_line_alike line (Line form) Seal is is' = absurd (seal_no_script_line (form, subst (λ l. IsLine l form) is' is))
seat_line_alike line (Line a) (Line b) is is' = ap Line (line_alike line a b is is')

-- bytes with no line are none
no_lines : (bytes : List ℕ) → lines_of bytes ≡ [] → bytes ≡ []
no_lines [] e = refl
no_lines (b ∷ bytes) e = go (eqb b line_end) (lines_of bytes) e
  where
    go : (ends : Bool) (lines : Lines) → cond ends ([] ∷ lines) (onto_first_line b lines) ≡ [] → b ∷ bytes ≡ []
    go true lines e = cc
    go false [] e = cc
    go false (line ∷ lines) e = cc

-- the lines behind a first line are those of some bytes
lines_behind : (bytes line : List ℕ) (lines : Lines) → lines_of bytes ≡ line ∷ lines → (behind : List ℕ) × (lines_of behind ≡ lines)
lines_behind [] line lines e = cc
lines_behind (b ∷ bytes) line lines e = go (eqb b line_end) (lines_of bytes) refl (λ first found f. lines_behind bytes first found f) e
  where
    go : (ends : Bool) (found : Lines) → lines_of bytes ≡ found
        → ((first : List ℕ) (later : Lines) → lines_of bytes ≡ first ∷ later → (behind : List ℕ) × (lines_of behind ≡ later))
        → cond ends ([] ∷ found) (onto_first_line b found) ≡ line ∷ lines → (behind : List ℕ) × (lines_of behind ≡ lines)
    go true found f later e = let same : found ≡ lines = cc in (bytes, f ∙ same)
    go false [] f later e = let none : [] ≡ lines = cc in ([], none)
    go false (first ∷ found) f later e =
        let same : found ≡ lines = cc in
        let more = later first found f in
        (more.0, more.1 ∙ same)

reads : (lines : Lines) (text : List ℕ) → lines_of text ≡ lines → AreSeatLines lines → (forms : List (SeatForm (List ℕ))) × BeginsWithSeatForms text (map Some forms) []
reads [] text e l = ([], no_lines text e)
reads (line ∷ lines) text e (own, l) =
    let form = form_of_seat line own in
    let later = lines_behind text line lines e in
    let more = reads lines later.0 later.1 l in
    (form.0 ∷ more.0, (later.0, (line, e ∙ ap (λ ls. line ∷ ls) (sym later.1), form.1), more.1))

pub lines_are_read : LinesAreRead
lines_are_read text l = reads (lines_of text) text refl l
