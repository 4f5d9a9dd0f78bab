-- A page of a directory as a caller in C reads it: of each entry its name and the name of its type, a byte 0 after each.
--
-- Source: ZwQueryDirectoryObject (Windows Driver Kit), for a page, its status and its context; the bytes are this profile.
use Rattle.std.specs.Prelude.{◌≡◌, ◌≤◌, ℕ, ◌-◌, List, [], ◌∷◌, ◌++◌, length, drop, map, nat_le, if◌then◌else◌, Option, None, Some, Result, Ok, Err, MatchBool}
use Rattle.ob_base.specs.Status.{code_of}
use Rattle.ob_base.specs.declared.status.Status.{Status}
use Rattle.ob_base.specs.declared.status.Status.TheVariants.{BufferTooSmall}
use Rattle.ob_model.specs.Enumeration.{Shown, fitting, largest_room, listed}
use Rattle.ob_model.specs.declared.entries.Listed.{Listed}
use Rattle.ob_model.specs.declared.reply.Given.{Given}
use Rattle.ob_model.specs.declared.reply.Given.TheVariants.{Nothing, Handle, Text, Process, Page}
use Rattle.ob_model.specs.declared.reply.Reply.{Reply}
use Rattle.ob_c_state.specs.Reports.{FillsNothing}
use Rattle.ob_numbers.specs.Texts.{zero_ended}

-- the room of a page for a buffer of so many bytes
abbrev pub room_within : ℕ → ℕ
room_within capacity = if nat_le largest_room capacity then largest_room else capacity

-- an entry
abbrev pub entry_bytes : Listed → List ℕ
entry_bytes e = zero_ended e.name ++ zero_ended e.type_name

-- entries, one after another
abbrev pub page_bytes : List Listed → List ℕ
page_bytes [] = []
page_bytes (e ∷ es) = entry_bytes e ++ page_bytes es

-- the page of a room has no more bytes than the room
abbrev pub PagesFit : Type 0
PagesFit = (room : ℕ) (entries : List Shown) → length (page_bytes (map listed (fitting room entries))) ≤ room

-- the rest of a room after this many bytes; none if they don't fit
abbrev pub room_left : (room needed : ℕ) → Option ℕ
room_left room needed = if nat_le needed room then Some (room - needed) else None

-- no page is reported, and the context stays
abbrev pub ReportsNoPage : (status : ℕ) → ℕ → (context context' : ℕ) → (old new : List ℕ) → (reported : ℕ) → Type 0
ReportsNoPage status code context context' old new reported = FillsNothing status code old new reported × (context' ≡ context)

-- Entries are written, and the context after them reported: they are the beginning of a buffer, and the rest of it stays. In
-- one that is too small nothing is written.
abbrev pub ReportsEntries : (status : ℕ) → Status → List Listed → (behind context context' : ℕ) → (old new : List ℕ) → (reported : ℕ) → Type 0
ReportsEntries status ended entries behind context context' old new reported =
    MatchBool (nat_le (length (page_bytes entries)) (length old))
    ((status ≡ code_of ended) × (new ≡ page_bytes entries ++ drop (length (page_bytes entries)) old) × (reported ≡ length (page_bytes entries)) × (context' ≡ behind))
    (ReportsNoPage status (code_of BufferTooSmall) context context' old new reported)

-- the report of a page that a reply gives
abbrev pub ReportsPageOf : (status : ℕ) → Status → Given → (context context' : ℕ) → (old new : List ℕ) → (reported : ℕ) → Type 0
ReportsPageOf status ended Nothing context context' old new reported = ReportsNoPage status (code_of ended) context context' old new reported
ReportsPageOf status ended (Handle value) context context' old new reported = ReportsNoPage status (code_of ended) context context' old new reported
ReportsPageOf status ended (Text text) context context' old new reported = ReportsNoPage status (code_of ended) context context' old new reported
ReportsPageOf status ended (Process child handles) context context' old new reported = ReportsNoPage status (code_of ended) context context' old new reported
ReportsPageOf status ended (Page entries behind) context context' old new reported = ReportsEntries status ended entries behind context context' old new reported

abbrev pub ReportsPage : (status : ℕ) → (context context' : ℕ) → (old new : List ℕ) → (reported : ℕ) → Result Reply Status → Type 0
ReportsPage status context context' old new reported (Ok reply) = ReportsPageOf status reply.status reply.given context context' old new reported
ReportsPage status context context' old new reported (Err why) = ReportsNoPage status (code_of why) context context' old new reported
