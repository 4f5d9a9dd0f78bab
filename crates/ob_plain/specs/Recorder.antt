-- A set that records the calls of the set below it.
use Rattle.std.specs.Prelude.{ℕ, ◌==◌, if◌then◌else◌, Option}
use Rattle.ob_model.specs.Procedures.{Procedures, ParseAnswer, Itself, Front, Reparse, Refused}
use Rattle.ob_model.specs.declared.terms.Reason.{Reason}
use Rattle.ob_plain.specs.Plain.{unless_told}
use Rattle.ob_plain.specs.Counting.{counted}
use Rattle.ob_plain.specs.Calls.{Kept, noted}
use Rattle.ob_plain.specs.declared.calls.Call.{Call}
use Rattle.ob_plain.specs.declared.calls.CallKind.{CallKind}
use Rattle.ob_plain.specs.declared.calls.CallKind.TheVariants as kinds
use Rattle.ob_plain.specs.declared.recorder.Recorder.{Recorder}
use Rattle.ob_plain.specs.declared.recorder.Recorded.{Recorded}

-- the set below, the calls, and the last serial that was drawn
abbrev pub part_of : {T : Type 0} → Recorder T → T
part_of recorder = recorder.part

abbrev pub kept_of : {T : Type 0} → Recorder T → Kept
kept_of recorder = recorder.calls

abbrev pub last_of : {T : Type 0} → Recorder T → ℕ
last_of recorder = recorder.last

-- one call
abbrev pub call : ℕ → CallKind → Call
call serial what = record { serial = serial; what = what }

-- the call of an open for a reason
abbrev pub opened_call : ℕ → Reason → Call
opened_call serial reason = call serial (kinds.Opened reason)

-- the serial of an object after an accepted open: the next one at the first, and else its own
abbrev pub serial_after : ℕ → ℕ → ℕ
serial_after last serial = if serial == 0 then counted last else serial

-- the last serial that was drawn, after that open
abbrev pub last_after : ℕ → ℕ → ℕ
last_after last serial = if serial == 0 then counted last else last

-- an object that was not opened yet
abbrev pub unopened : {I : Type 0} → I → Recorded I
unopened inner = record { part = inner; serial = 0 }

-- it counts no open handle where what the set below changes of it does
abbrev pub IsRecordedIdle : {I : Type 0} → (I → Type 0) → Recorded I → Type 0
IsRecordedIdle Idle inner = Idle inner.part

-- what a parse procedure answers, where an instance that it makes was not opened yet
abbrev pub unopened_answer : {F I : Type 0} → ParseAnswer F I → ParseAnswer F (Recorded I)
unopened_answer Itself = Itself
unopened_answer (Front used face inner) = Front used face (unopened inner)
unopened_answer (Reparse text) = Reparse text
unopened_answer (Refused k) = Refused k

-- what an open leaves of a recorder and of an object, given what it leaves below: where it is accepted
-- it draws a serial at the object's first, and is noted
abbrev pub opened_by : {T I : Type 0} → Option ℕ → Recorder T → Recorded I → Reason → T × I → Recorder T × Recorded I
opened_by refusal recorder inner reason left = (
  record recorder {
    part = left.0;
    last = unless_told refusal recorder.last (last_after recorder.last inner.serial);
    calls = unless_told refusal recorder.calls (noted recorder.calls (opened_call (serial_after recorder.last inner.serial) reason));
  },
  record inner {
    part = left.1;
    serial = unless_told refusal inner.serial (serial_after recorder.last inner.serial);
  },
)

-- what each procedure means: what it means below, and one more call
abbrev pub recording_procedures : {K T F I : Type 0} → Procedures K T F I → Procedures K (Recorder T) F (Recorded I)
recording_procedures below = record {
  type_name = below.type_name;
  kind_of = below.kind_of;
  same_kind = below.same_kind;
  parses = below.parses;
  same_face = below.same_face;
  refuses_to_make = below.refuses_to_make;
  made = λ kind args. ((below.made kind args).0, unopened ((below.made kind args).1));
  parsed = λ face rest. unopened_answer (below.parsed face rest);
  refuses_to_open = λ recorder inner reason. below.refuses_to_open recorder.part inner.part reason;
  opened = λ recorder inner reason. opened_by (below.refuses_to_open recorder.part inner.part reason) recorder inner reason (below.opened recorder.part inner.part reason);
  closed = λ recorder inner process_left system_left. (
    record recorder {
      part = (below.closed recorder.part inner.part process_left system_left).0;
      calls = noted recorder.calls (call inner.serial (kinds.Closed process_left system_left));
    },
    record inner { part = (below.closed recorder.part inner.part process_left system_left).1 },
  );
  deleted = λ recorder inner. record recorder {
    part = below.deleted recorder.part inner.part;
    calls = noted recorder.calls (call inner.serial kinds.Deleted);
  };
}
