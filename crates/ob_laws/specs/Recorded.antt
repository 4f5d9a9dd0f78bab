-- That the list of a recorder is the calls of its run, where none was lost: those of `CallsMade`, each under the serial of
-- its object.
use Rattle.std.specs.Prelude.{◌≡◌, ℕ, ◌-◌, ◌^◌, min, ◌&&◌, ◌==◌, if◌then◌else◌, List, [], ◌∷◌, length, map, take}
use Rattle.ob_model.specs.Opening.{opening}
use Rattle.ob_model.specs.Procedures.{Procedures}
use Rattle.ob_model.specs.Calls.{Call, Opened, Closed, Deleted, Passed, Passes, left_by}
use Rattle.ob_model.specs.Lifetimes.{is_open}
use Rattle.ob_plain.specs.Calls.{none_kept}
use Rattle.ob_plain.specs.Recorder.{recording_procedures, kept_of, last_of, call}
use Rattle.ob_plain.specs.declared.calls.Call as recorder
use Rattle.ob_plain.specs.declared.calls.CallKind.{CallKind}
use Rattle.ob_plain.specs.declared.calls.CallKind.TheVariants as kinds
use Rattle.ob_plain.specs.declared.recorder.Recorder.{Recorder}
use Rattle.ob_plain.specs.declared.recorder.Recorded.{Recorded}
use Rattle.ob_laws.specs.CallsMade.{Made, AreMade}

-- Of objects that were opened, the last one first: the number of this one, where the object that was opened first has
-- number 1; 0 where it is none of them.
abbrev pub number_in : List ℕ → ℕ → ℕ
number_in [] o = 0
number_in (x ∷ xs) o = if x == o then length (x ∷ xs) else number_in xs o

-- the objects that were opened, the last one first, after one call more: an object comes with its first open
abbrev pub opened_behind : List ℕ → Made → List ℕ
opened_behind opened m = if is_open m.call && (number_in opened m.object == 0) then m.object ∷ opened else opened

-- and after these calls
abbrev pub opened_by : List ℕ → List Made → List ℕ
opened_by opened [] = opened
opened_by opened (m ∷ log) = opened_by (opened_behind opened m) log

-- the serial of an object: the number of its first open among the first opens of the log, from 1 up to the greatest u64;
-- 0 of one that is never opened
abbrev pub serial_in : List Made → ℕ → ℕ
serial_in log o = min (number_in (opened_by [] log) o) (2 ^ 64 - 1)

-- what is called, as a recorder gives it
abbrev pub told : Call → CallKind
told (Opened reason) = kinds.Opened reason
told (Closed process_left system_left) = kinds.Closed process_left system_left
told Deleted = kinds.Deleted

-- these calls, each under the serial of its object
abbrev pub under_serials : List Made → List recorder.Call
under_serials log = map (λ m. call (serial_in log m.object) (told m.call)) log

module _ (K T F I : Type 0) where
  -- The calls that a recorder with room for so many has after a run, where the log is of the calls that are made: where it lost
  -- none, all calls of the log; and else the first that there was room for, and the number of the others, up to the
  -- greatest u64.
  pub record IsRecorded (below : Procedures K T F I) (first : Recorder T) (room : ℕ) (steps : List (Passed K (Recorder T) F (Recorded I))) (log : List Made) : Type 0 where
    pub made : AreMade K (Recorder T) F (Recorded I) (recording_procedures below) first steps log
    pub all : (kept_of (left_by (opening first) steps).set).lost ≡ 0 → (kept_of (left_by (opening first) steps).set).calls ≡ under_serials log
    pub front : (kept_of (left_by (opening first) steps).set).calls ≡ take room (under_serials log)
    pub others : (kept_of (left_by (opening first) steps).set).lost ≡ min (length log - room) (2 ^ 64 - 1)

  -- A recorder that begins with no call and with no serial drawn, over any set, has the calls of each run.
  abbrev pub RecordersHaveTheirCalls : Type 0
  RecordersHaveTheirCalls =
      (below : Procedures K T F I) (first : Recorder T) (room : ℕ) (steps : List (Passed K (Recorder T) F (Recorded I)))
      → kept_of first ≡ none_kept room → last_of first ≡ 0 → Passes (recording_procedures below) (opening first) 0 steps
      → (log : List Made) × IsRecorded below first room steps log
