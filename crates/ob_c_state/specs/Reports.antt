-- The report of a call on how a command ended: a number, and what its reply gives.
--
-- Source: the Windows Driver Kit's "NTSTATUS values"; how a buffer is filled is this profile.
use Rattle.std.specs.Prelude.{◌≡◌, ℕ, List, [], ◌∷◌, ◌++◌, length, drop, nat_le, if◌then◌else◌, Result, Ok, Err, MatchBool}
use Rattle.ob_base.specs.Status.{code_of}
use Rattle.ob_base.specs.declared.status.Status.{Status}
use Rattle.ob_base.specs.declared.status.Status.TheVariants.{BufferTooSmall}
use Rattle.ob_model.specs.declared.entries.Listed.{Listed}
use Rattle.ob_model.specs.declared.reply.Given.{Given}
use Rattle.ob_model.specs.declared.reply.Given.TheVariants.{Nothing, Handle, Text, Process, Page}
use Rattle.ob_model.specs.declared.reply.Reply.{Reply}
use Rattle.ob_numbers.specs.Types.{IsTypeNumber}

-- the status of a call, as its number
abbrev pub status_in : Result Reply Status → ℕ
status_in (Ok reply) = code_of reply.status
status_in (Err status) = code_of status

-- what a reply gives: nothing if there is none
abbrev pub given_in : Result Reply Status → Given
given_in (Ok reply) = reply.given
given_in (Err status) = Nothing

-- a new handle; 0 if none is given
abbrev pub handle_given : Given → ℕ
handle_given Nothing = 0
handle_given (Handle value) = value
handle_given (Text text) = 0
handle_given (Process child handles) = 0
handle_given (Page entries context) = 0

abbrev pub handle_in : Result Reply Status → ℕ
handle_in ended = handle_given (given_in ended)

-- a new process; 0 if none is given
abbrev pub process_given : Given → ℕ
process_given Nothing = 0
process_given (Handle value) = 0
process_given (Text text) = 0
process_given (Process child handles) = child
process_given (Page entries context) = 0

abbrev pub process_in : Result Reply Status → ℕ
process_in ended = process_given (given_in ended)

-- the report of a call by its status, and by that and a handle
abbrev pub ReportsStatus : ℕ → Result Reply Status → Type 0
ReportsStatus status ended = status ≡ status_in ended

abbrev pub ReportsHandle : (status handle : ℕ) → Result Reply Status → Type 0
ReportsHandle status handle ended = (status ≡ status_in ended) × (handle ≡ handle_in ended)

abbrev pub ReportsProcess : (status child : ℕ) → Result Reply Status → Type 0
ReportsProcess status child ended = (status ≡ status_in ended) × (child ≡ process_in ended)

-- A buffer of the caller's, old and new, and a text for it: if it fits, it is written to the beginning and the rest stays;
-- else the status is BUFFER_TOO_SMALL, and nothing is written. The length is reported in either case.
abbrev pub Fills : (status : ℕ) → List ℕ → Status → (old new : List ℕ) → ℕ → Type 0
Fills status text ended old new reported =
    (reported ≡ length text)
    × MatchBool (nat_le (length text) (length old)) ((status ≡ code_of ended) × (new ≡ text ++ drop (length text) old)) ((status ≡ code_of BufferTooSmall) × (new ≡ old))

-- no text is reported
abbrev pub FillsNothing : (status : ℕ) → ℕ → (old new : List ℕ) → ℕ → Type 0
FillsNothing status code old new reported = (status ≡ code) × (new ≡ old) × (reported ≡ 0)

-- the report of a text that a reply gives
abbrev pub ReportsTextOf : (status : ℕ) → Status → Given → (old new : List ℕ) → ℕ → Type 0
ReportsTextOf status ended Nothing old new reported = FillsNothing status (code_of ended) old new reported
ReportsTextOf status ended (Handle value) old new reported = FillsNothing status (code_of ended) old new reported
ReportsTextOf status ended (Text text) old new reported = Fills status text ended old new reported
ReportsTextOf status ended (Process child handles) old new reported = FillsNothing status (code_of ended) old new reported
ReportsTextOf status ended (Page entries context) old new reported = FillsNothing status (code_of ended) old new reported

abbrev pub ReportsText : (status : ℕ) → (old new : List ℕ) → ℕ → Result Reply Status → Type 0
ReportsText status old new reported (Ok reply) = ReportsTextOf status reply.status reply.given old new reported
ReportsText status old new reported (Err why) = FillsNothing status (code_of why) old new reported

-- no entry is reported, and the context stays
abbrev pub ReportsNoEntry : (status : ℕ) → ℕ → (context context' : ℕ) → (old new : List ℕ) → (reported type : ℕ) → Type 0
ReportsNoEntry status code context context' old new reported type = FillsNothing status code old new reported × (context' ≡ context) × (type ≡ 0)

-- The first entry of a page is reported: its name in the buffer, the number of its type, and the context after it; a
-- buffer that is too small leaves the context.
abbrev pub ReportsFirst : (status : ℕ) → Status → List Listed → (behind context context' : ℕ) → (old new : List ℕ) → (reported type : ℕ) → Type 0
ReportsFirst status ended [] behind context context' old new reported type = ReportsNoEntry status (code_of ended) context context' old new reported type
ReportsFirst status ended (entry ∷ entries) behind context context' old new reported type =
    Fills status entry.name ended old new reported × IsTypeNumber entry.type_name type
    × (context' ≡ (if nat_le (length entry.name) (length old) then behind else context))

abbrev pub ReportsEntryOf : (status : ℕ) → Status → Given → (context context' : ℕ) → (old new : List ℕ) → (reported type : ℕ) → Type 0
ReportsEntryOf status ended Nothing context context' old new reported type = ReportsNoEntry status (code_of ended) context context' old new reported type
ReportsEntryOf status ended (Handle value) context context' old new reported type = ReportsNoEntry status (code_of ended) context context' old new reported type
ReportsEntryOf status ended (Text text) context context' old new reported type = ReportsNoEntry status (code_of ended) context context' old new reported type
ReportsEntryOf status ended (Process child handles) context context' old new reported type = ReportsNoEntry status (code_of ended) context context' old new reported type
ReportsEntryOf status ended (Page entries behind) context context' old new reported type = ReportsFirst status ended entries behind context context' old new reported type

abbrev pub ReportsEntry : (status : ℕ) → (context context' : ℕ) → (old new : List ℕ) → (reported type : ℕ) → Result Reply Status → Type 0
ReportsEntry status context context' old new reported type (Ok reply) = ReportsEntryOf status reply.status reply.given context context' old new reported type
ReportsEntry status context context' old new reported type (Err why) = ReportsNoEntry status (code_of why) context context' old new reported type
