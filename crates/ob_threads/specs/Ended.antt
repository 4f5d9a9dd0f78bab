-- Which of several ends of seats is reported.
--
-- Source: this profile.
use Rattle.std.specs.Prelude.{ℕ, nat_le, Bool, true, false, List, Result, Ok, Err, if◌then◌else◌}
use Rattle.std.specs.List.{fold}
use Rattle.ob_seats.specs.declared.stop.Stop.{Stop}
use Rattle.ob_seats.specs.declared.stop.Stop.TheVariants.{Memory, Refused}
use Rattle.ob_seats.specs.declared.stop.Stopped.{Stopped}
use Rattle.ob_threads.specs.declared.ends.ThreadsEnding.{ThreadsEnding}
use Rattle.ob_threads.specs.declared.ends.ThreadsEnding.TheVariants as ending

-- how the run of a seat's lines ended, or which end is reported of several: where it stopped, there is the line and the
-- reason
abbrev pub SeatOutcome : Type 0
SeatOutcome = Result (Unit {0}) Stopped

-- out of memory is reported before a refusal, and of the same kind the least line
abbrev pub is_told_first : Stop → Stop → ℕ → ℕ → Bool
is_told_first Memory Refused line line' = true
is_told_first Refused Memory line line' = false
is_told_first Memory Memory line line' = nat_le line line'
is_told_first Refused Refused line line' = nat_le line line'

-- the one of two ends that is reported
abbrev pub told_of : SeatOutcome → SeatOutcome → SeatOutcome
told_of (Ok done) other = other
told_of (Err one) (Ok done) = Err one
told_of (Err one) (Err other) = if is_told_first one.why other.why one.line other.line then Err one else Err other

-- the one of several ends that is reported: that all was run, where all ends say so
abbrev pub told_in : List SeatOutcome → SeatOutcome
told_in ends = fold told_of (Ok tt) ends

-- how a run of lines that ended so ends
abbrev pub stopped_ending : Stop → ℕ → ThreadsEnding
stopped_ending Memory line = ending.NoMemoryAt line
stopped_ending Refused line = ending.RefusedAt line

abbrev pub ending_of : SeatOutcome → ThreadsEnding
ending_of (Ok done) = ending.Done
ending_of (Err stopped) = stopped_ending stopped.why stopped.line
