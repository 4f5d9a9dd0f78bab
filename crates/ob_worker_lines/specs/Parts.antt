-- Parts: the lines of a seat, and their numbers.
--
-- Source: this profile.
use Rattle.std.specs.Prelude.{◌≡◌, ◌≢◌, ◌⊎◌, ℕ, ◌+◌, ◌≤◌, Bool, true, false, List, [], ◌∷◌, ◌++◌, length, map, Some, All}
use Rattle.ob_lines.specs.Lines.{IsFirstLine, lines_of}
use Rattle.ob_worker_lines.specs.declared.form.SeatForm.{SeatForm}
use Rattle.ob_worker_lines.specs.declared.part.Part.{Part}
use Rattle.ob_worker_lines.specs.declared.script.CutFault.{CutFault}
use Rattle.ob_worker_lines.specs.declared.script.CutFault.TheVariants.{BadLine, Memory}
use Rattle.ob_worker_lines.specs.declared.script.WorkerScript.{WorkerScript}
use Rattle.ob_worker_lines.specs.Cuts.{Lines, join_line, IsSeatLine, AreSeatLines, IsBadLine}
use Rattle.ob_worker_lines.specs.Forms.{BeginsWithSeatForms}

-- the lines of a part
abbrev pub lines_in : Part → Lines
lines_in part = lines_of part.text.now

-- the lines of each worker have their numbers, where the first `thread` is the line of this number
abbrev pub WorkersAreNumbered : ℕ → List Part → Type 0
WorkersAreNumbered number [] = Unit {0}
WorkersAreNumbered number (worker ∷ workers) =
    (worker.first ≡ number + 1) × WorkersAreNumbered (number + 1 + length (lines_in worker)) workers

-- the lines of each part have the numbers that they have in the script
pub record AreNumbered (lines : Lines) (cut : WorkerScript) : Type 0 where
  pub before : cut.before.first ≡ 1
  pub workers : WorkersAreNumbered (1 + length (lines_in cut.before)) cut.workers.items
  pub behind : cut.behind.first + length (lines_in cut.behind) ≡ length lines + 1

-- what each part of a script of so many bytes has for who runs it: each of its lines is a line of a seat, and no
-- line's number is above that of the bytes
abbrev pub IsRunnable : ℕ → Part → Type 0
IsRunnable size part = AreSeatLines (lines_in part) × (part.first + length (lines_in part) ≤ size + 1)

abbrev pub AreRunnable : ℕ → WorkerScript → Type 0
AreRunnable size cut = IsRunnable size cut.before × All (IsRunnable size) cut.workers.items × IsRunnable size cut.behind

-- what the fault says of the lines that are not cut; out of memory says nothing of them
abbrev pub IsFault : Lines → CutFault → Type 0
IsFault lines (BadLine number) = IsBadLine lines number
IsFault lines Memory = Unit {0}

-- a text of lines of a seat has a reading, with a form for each line
abbrev pub LinesAreRead : Type 0
LinesAreRead =
    (text : List ℕ) → AreSeatLines (lines_of text) → (forms : List (SeatForm (List ℕ))) × BeginsWithSeatForms text (map Some forms) []

-- the first line is a line of a seat, and the rest follows it
abbrev pub IsSeatLineBefore : List ℕ → List ℕ → Type 0
IsSeatLineBefore bytes rest = (line : List ℕ) × IsFirstLine bytes line rest × IsSeatLine line

-- the lines after those of the workers are this part: at the end an empty one, else one after `join`. The lines after
-- the workers begin with the line of this number.
abbrev pub IsBehind : Bool → Lines → ℕ → Part → Type 0
IsBehind has_workers lines number part =
    ((lines ≡ []) × (lines_in part ≡ []) × (part.first ≡ number))
    ⊎ ((has_workers ≡ true) × (lines ≡ join_line ∷ lines_in part) × AreSeatLines (lines_in part) × (part.first ≡ number + 1))

-- the line is in a wrong place after the lines of the workers: it is the first there, and no `join` that may be
-- there; or it follows `join` and is no line of a seat
abbrev pub IsMisplaced : Bool → Lines → ℕ → ℕ → Type 0
IsMisplaced has_workers lines number bad =
    ((line : List ℕ) × (rest : Lines) × (lines ≡ line ∷ rest) × (line ≡ join_line → has_workers ≡ false) × (bad ≡ number))
    ⊎ ((good : Lines) × (line : List ℕ) × (rest : Lines) × (has_workers ≡ true) × (lines ≡ join_line ∷ good ++ line ∷ rest)
    × AreSeatLines good × (¬ IsSeatLine line) × (bad ≡ number + 1 + length good))
