-- The outcome of a worker's lines.
--
-- Source: this profile.
use Rattle.std.specs.Prelude.{◌≡◌, ◌<◌, ◌+◌, ◌^◌, ℕ, ◌++◌, length, Ok, Err}
use Rattle.ob_requests.specs.Variables.{Variables}
use Rattle.ob_worker_lines.specs.Cuts.{AreSeatLines}
use Rattle.ob_worker_lines.specs.declared.part.Part.{Part}
use Rattle.ob_worker_lines.specs.Parts.{lines_in}
use Rattle.ob_seats.specs.Played.{IsSeatPlayed}
use Rattle.ob_seats.specs.Received.{Entries}
use Rattle.ob_seats.specs.Stopped.{IsSeatStopped, Known}
use Rattle.ob_threads.specs.Ended.{SeatOutcome}

-- a seat can run this part: its lines are script lines, and have numbers below 2^64
abbrev pub CanRun : Part → Type 0
CanRun part = AreSeatLines (lines_in part) × (part.first + length (lines_in part) < 2 ^ 64)

-- A seat that runs the lines of a part, beginning with these variables, makes these entries and ends so: it plays them to their end, or stops before.
abbrev pub IsSeatRun : Known → Part → Variables → Entries → SeatOutcome → Type 0
IsSeatRun known part variables entries (Ok done) = IsSeatPlayed (lines_in part) variables entries
IsSeatRun known part variables entries (Err stopped) = IsSeatStopped known part.first (lines_in part) variables entries stopped

-- a worker, which had these receipts, was run: its seat stays, and the receipts that follow are the entries of its run
abbrev pub IsWorked : Known → Part → Variables → (seat seat' : ℕ) → (receipts receipts' : Entries) → SeatOutcome → Type 0
IsWorked known part variables seat seat' receipts receipts' ended =
    (seat' ≡ seat) × ((entries : Entries) × (receipts' ≡ receipts ++ entries) × IsSeatRun known part variables entries ended)
