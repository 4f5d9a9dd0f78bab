-- Cuts: how the lines of a script with workers are cut into the lines of its seats.
--
-- Source: this profile.
use Rattle.std.specs.Prelude.{◌≡◌, ◌≢◌, ◌⊎◌, ℕ, ◌+◌, ◌≤◌, List, [], ◌∷◌, ◌++◌, length, codes}
use Rattle.std.specs.List.{AllByRecursion}
use Rattle.ob_lines.specs.declared.form.Form.{Form}
use Rattle.ob_lines.specs.Grammar.{IsLine}

-- lines in order, each without its LF
abbrev pub Lines : Type 0
Lines = List (List ℕ)

-- the line that begins the lines of a worker
abbrev pub thread_line : List ℕ
thread_line = codes "thread"

-- the line that ends the lines of the last worker
abbrev pub join_line : List ℕ
join_line = codes "join"

-- the line that seals the open segment of the journal
abbrev pub seal_line : List ℕ
seal_line = codes "seal"

-- the most workers that a script may have
abbrev pub most_workers : ℕ
most_workers = 63

-- the line is a line of a script without workers
abbrev pub IsScriptLine : List ℕ → Type 0
IsScriptLine line = (form : Form (List ℕ)) × IsLine line form

-- the line is a line of a seat: one of a script without workers, or the line `seal`
abbrev pub IsSeatLine : List ℕ → Type 0
IsSeatLine line = IsScriptLine line ⊎ (line ≡ seal_line)

-- and so is each of these lines
abbrev pub AreSeatLines : Lines → Type 0
AreSeatLines lines = AllByRecursion IsSeatLine lines

-- the first of these lines, where there is one, is no line of a seat
abbrev pub IsStopped : Lines → Type 0
IsStopped [] = Unit {0}
IsStopped (line ∷ lines) = ¬ IsSeatLine line

-- the lines that workers take in a script: for each a line `thread`, and its own after it
abbrev pub worker_lines : List Lines → Lines
worker_lines [] = []
worker_lines (lines ∷ workers) = thread_line ∷ lines ++ worker_lines workers

-- what follows the lines of the workers: nothing; or, where there is a worker, a line `join` and what follows it
abbrev pub IsEnd : List Lines → Lines → Lines → Type 0
IsEnd workers behind end = ((end ≡ []) × (behind ≡ [])) ⊎ ((workers ≢ []) × (end ≡ join_line ∷ behind))

-- The lines are cut into those of seat 0 before the workers, those of each worker, and those of seat 0 after them: one
-- after another they are all the lines, with `thread` before those of each worker, and `join`, where there is one,
-- before the last. Each is a line of a seat, and there are no more workers than there may be.
pub record IsCut (lines before : Lines) (workers : List Lines) (behind : Lines) : Type 0 where
  pub end : Lines
  pub joined : IsEnd workers behind end
  pub whole : lines ≡ before ++ worker_lines workers ++ end
  pub before_lines : AreSeatLines before
  pub workers_lines : AllByRecursion AreSeatLines workers
  pub behind_lines : AreSeatLines behind
  pub few : length workers ≤ most_workers

-- the lines are those of a script with workers
abbrev pub CanBeCut : Lines → Type 0
CanBeCut lines = (before behind : Lines) × (workers : List Lines) × IsCut lines before workers behind

-- the line of this number is the first that is no line of a script with workers or is in a wrong place: the lines
-- before it are those of such a script, and no such script begins with them and it
pub record IsBadLine (lines : Lines) (number : ℕ) : Type 0 where
  pub good : Lines
  pub line : List ℕ
  pub rest : Lines
  pub whole : lines ≡ good ++ line ∷ rest
  pub number_is : number ≡ length good + 1
  pub cut : CanBeCut good
  pub wrong : (more : Lines) → ¬ CanBeCut (good ++ line ∷ more)

-- two bad lines of the same lines are the same
abbrev pub ScriptsHaveOneBadLine : Type 0
ScriptsHaveOneBadLine = (lines : Lines) (number number' : ℕ) → IsBadLine lines number → IsBadLine lines number' → number ≡ number'

-- two cuts of the same lines are the same
abbrev pub ScriptsHaveOneCut : Type 0
ScriptsHaveOneCut =
    (lines before before' behind behind' : Lines) (workers workers' : List Lines) → IsCut lines before workers behind → IsCut lines before' workers' behind'
    → (before ≡ before') × (workers ≡ workers') × (behind ≡ behind')
