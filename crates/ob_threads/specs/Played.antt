-- The effects of a script with workers: the steps of each seat, and their order in the journal.
--
-- Source: this profile.
use Rattle.std.specs.Prelude.{◌≡◌, ℕ, ◌+◌, ◌≤◌, List, [], ◌∷◌, ◌++◌, length, map, take, drop}
use Rattle.std.specs.List.{AllZip, range_with_len}
use Rattle.ob_standard.specs.Standard.{StandardKind}
use Rattle.ob_locked.specs.Passed.{Passed}
use Rattle.ob_agreement.specs.Agreement.{entries_of}
use Rattle.ob_requests.specs.Variables.{Variables, first_variables}
use Rattle.ob_worker_lines.specs.Cuts.{IsCut, Lines}
use Rattle.ob_seats.specs.Kept.{for_worker}
use Rattle.ob_seats.specs.Played.{ArePlayed, IsSeatPlayed}
use Rattle.ob_seats.specs.Received.{Entries}

-- Seat 0 plays the lines before the workers. Each worker plays its own lines, with the variables that seat 0 then has, and seat 0 plays the lines after the
-- join, which end it. These are the entries of seat 0 before the workers, those of each worker in order, and those of seat 0 after the join.
pub record IsPlayedBy (before : Lines) (workers : List Lines) (behind : Lines) (begun : Entries) (theirs : List Entries) (rest : Entries) : Type 0 where
  pub variables : Variables
  pub first : ArePlayed before first_variables begun variables
  pub workers_play : AllZip (λ lines entries. IsSeatPlayed lines (for_worker variables) entries) workers theirs
  pub last : IsSeatPlayed behind variables rest

-- a relation of the entries of seat 0 before the workers, those of each worker in order, and those of seat 0 after the join
abbrev pub SeatsRelation : Type 1
SeatsRelation = Entries → List Entries → Entries → Type 0

-- the entries of each of so many seats, from this one on
abbrev pub entries_from : Entries → ℕ → ℕ → List Entries
entries_from journal seat count = map (λ s. entries_of s journal) (range_with_len seat count)

-- The entries of a journal come in order: these are those of seat 0 before the workers and after the join, and all others come between them.
pub record AreInOrder (begun rest journal : Entries) : Type 0 where
  pub between : Entries
  pub order : journal ≡ begun ++ (between ++ rest)
  pub own : entries_of 0 journal ≡ begun ++ rest

-- they come in order, with so many of seat 0 before the workers
abbrev pub IsInOrder : ℕ → Entries → Type 0
IsInOrder count journal = (begun : Entries) × (rest : Entries) × (length begun ≡ count) × AreInOrder begun rest journal

-- it relates the entries of a journal, which come in order, and are those of seat 0 and of so many workers and no others
abbrev pub IsJournalOf : SeatsRelation → ℕ → Entries → Type 0
IsJournalOf Is workers journal =
    (begun : Entries) × (rest : Entries) × AreInOrder begun rest journal × Is begun (entries_from journal 1 workers) rest
    × ((seat : ℕ) → workers + 1 ≤ seat → entries_of seat journal ≡ [])

-- the entries of a journal are what the lines play
abbrev pub IsPlayedOf : Lines → List Lines → Lines → Entries → Type 0
IsPlayedOf before workers behind journal = IsJournalOf (IsPlayedBy before workers behind) (length workers) journal

-- A journal is what the lines of a script play: they are cut into those of the seats, each seat's entries are what its lines play, and there
-- are no other entries.
pub record IsPlayed (lines : Lines) (journal : Entries) (seats : ℕ) : Type 0 where
  pub before : Lines
  pub workers : List Lines
  pub behind : Lines
  pub cut : IsCut lines before workers behind
  pub seated : seats ≡ length workers + 1
  pub played : IsPlayedOf before workers behind journal

-- passes of so many workers, in order, with that of seat 0 after them
abbrev pub ArePasses : ℕ → List (Passed StandardKind) → Type 0
ArePasses count passes = map (λ p. p.seat) passes ≡ range_with_len 1 count ++ 0 ∷ []

-- it relates the receipts of seat 0 and of each worker, where seat 0 had so many before the workers
abbrev pub AreReceiptsOf : SeatsRelation → ℕ → Entries → List Entries → Type 0
AreReceiptsOf Is begun own theirs = Is (take begun own) theirs (drop begun own)

-- it relates what passes have received, those of workers in order and that of seat 0 after them
abbrev pub ArePassesOf : SeatsRelation → ℕ → List (Passed StandardKind) → Type 0
ArePassesOf Is begun passes =
    (theirs : List (Passed StandardKind)) × (own : Passed StandardKind) × (passes ≡ theirs ++ own ∷ []) × AreReceiptsOf Is begun own.receipts (map (λ p. p.receipts) theirs)
