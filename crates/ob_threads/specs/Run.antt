-- Runs of a script with workers, to the end of its lines or to where seats stop: the entries of each seat, and the end
-- that is reported.
--
-- Source: this profile.
use Rattle.std.specs.Prelude.{◌≡◌, ◌⊎◌, ◌+◌, ℕ, List, [], ◌++◌, length, map, All, Err, OnOk}
use Rattle.std.specs.List.{AllZip}
use Rattle.ob_base.specs.declared.fault.Fault.{Fault}
use Rattle.ob_model.specs.Run.{Run}
use Rattle.ob_entries.specs.Segments.{Segment, AreSealed, joined, open_after}
use Rattle.ob_standard.specs.Standard.{Standard, StandardKind, standard}
use Rattle.ob_standard_core.specs.Machine.{Space}
use Rattle.ob_requests.specs.Variables.{Variables, first_variables}
use Rattle.ob_worker_lines.specs.declared.part.Part.{Part}
use Rattle.ob_worker_lines.specs.declared.script.WorkerScript.{WorkerScript}
use Rattle.ob_worker_lines.specs.Cuts.{IsCut, Lines}
use Rattle.ob_worker_lines.specs.Parts.{AreNumbered, lines_in}
use Rattle.ob_seats.specs.declared.stop.Stopped.{Stopped}
use Rattle.ob_seats.specs.Kept.{for_worker}
use Rattle.ob_seats.specs.Played.{ArePlayed}
use Rattle.ob_seats.specs.Received.{Entries}
use Rattle.ob_seats.specs.Stopped.{AreLetGo, IsPartStopped, Known}
use Rattle.ob_threads.specs.Ended.{SeatOutcome, told_in, told_of}
use Rattle.ob_threads.specs.Faults.{IsFaultAt}
use Rattle.ob_threads.specs.Played.{IsJournalOf, IsPlayedOf, SeatsRelation}
use Rattle.ob_threads.specs.Worked.{IsSeatRun}

-- some call answered this fault, and handed some pass back
abbrev pub IsGiven : {P : Type 0} → (P → Known) → Known
IsGiven gives fault = (last : _) × gives last fault

-- Each worker runs its part, beginning with these variables, by its own entries to its own end. One of these ends is
-- reported for them all.
pub record AreWorkersRun (known : Fault → Type 0) (parts : List Part) (variables : Variables) (theirs : List Entries) (ended : SeatOutcome) : Type 0 where
  pub runs : List (Entries × SeatOutcome)
  pub each : AllZip (λ part run. IsSeatRun known part variables run.0 run.1) parts runs
  pub theirs_are : theirs ≡ map (λ run. run.0) runs
  pub told : ended ≡ told_in (map (λ run. run.1) runs)

-- Seat 0 stops at one of its lines before the workers, with this pass handed back last, and then its opens that wait are given up. No worker makes a step.
pub record AreNotBegun {P : Type 0} (gives : P → Fault → Type 0) (before : Part) (own : Entries) (theirs : List Entries) (stopped : Stopped) : Type 0 where
  pub begun : Entries
  pub given_up : Entries
  pub left : Variables
  pub last : P
  pub whole : own ≡ begun ++ given_up
  pub stops : IsPartStopped (gives last) before.first (lines_in before) first_variables begun stopped left
  pub let_go : AreLetGo left given_up
  pub idle : All (λ entries. entries ≡ []) theirs

-- Seat 0 plays its lines before the workers. Each worker runs its own, beginning with the variables that seat 0 then has, and seat 0 continues with the lines
-- after the workers. Of the ends of both one is reported.
pub record AreBegun (known : Fault → Type 0) (script : WorkerScript) (begun : Entries) (theirs : List Entries) (rest : Entries) (ended : SeatOutcome) : Type 0 where
  pub variables : Variables
  pub their_end : SeatOutcome
  pub own_end : SeatOutcome
  pub first : ArePlayed (lines_in script.before) first_variables begun variables
  pub workers_run : AreWorkersRun known script.workers.items (for_worker variables) theirs their_end
  pub last : IsSeatRun known script.behind variables rest own_end
  pub told : ended ≡ told_of their_end own_end

-- A script that was cut is run, and this end is reported: seat 0 stops before the workers, or all seats run.
abbrev pub AreRun : {P : Type 0} → (P → Known) → WorkerScript → SeatOutcome → SeatsRelation
AreRun gives script ended begun theirs rest =
    ((stopped : Stopped) × (ended ≡ Err stopped) × (rest ≡ []) × AreNotBegun gives script.before begun theirs stopped)
    ⊎ AreBegun (IsGiven gives) script begun theirs rest ended

-- A journal is that of a run of a script, of which this end is reported: its lines are cut into numbered parts for the seats, each seat's entries are
-- those of its run, and there are no other entries.
pub record IsRunTo (lines : Lines) (journal : Entries) (seats : ℕ) (ended : SeatOutcome) : Type 0 where
  pub script : WorkerScript
  pub cut : IsCut lines (lines_in script.before) (map lines_in script.workers.items) (lines_in script.behind)
  pub numbers : AreNumbered lines script
  pub seated : seats ≡ length script.workers.items + 1
  pub run : IsJournalOf (AreRun IsFaultAt script ended) (length script.workers.items) journal

-- A run of a script that was cut leaves a journal in these segments, of which the last is the open one, and this end is reported: the journal is a run of the
-- machine, and that of the seats; if all lines were run, it is what they play.
pub record IsFinished (script : WorkerScript) (sealed : List (Segment StandardKind)) (last : Segment StandardKind) (ended : SeatOutcome) : Type 0 where
  pub first : Standard
  pub state : Space
  pub machine : Run standard first (joined sealed ++ last.entries) state
  pub are_sealed : AreSealed 1 1 sealed
  pub last_is : last ≡ open_after sealed last.entries
  pub run : IsJournalOf (AreRun IsFaultAt script ended) (length script.workers.items) (joined sealed ++ last.entries)
  pub played : OnOk ended (IsPlayedOf (lines_in script.before) (map lines_in script.workers.items) (lines_in script.behind) (joined sealed ++ last.entries))
