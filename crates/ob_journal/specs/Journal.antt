-- Journals that are those of runs, in both versions: what their lines say, and where one stops being so.
--
-- Source: this profile; which value the text of a line is, `serde_json` defines, and what it says, `ob_reader`.
use Rattle.std.specs.Prelude.{◌≡◌, ◌⊎◌, ℕ, ◌+◌, ◌<◌, ◌≤◌, ◌==◌, nat_lt, Bool, true, false, not, ◌&&◌, ◌||◌, List, [], ◌∷◌, ◌++◌, length, Option, None, Some, MatchOption, if◌then◌else◌}
use Rattle.std.specs.Option.{is_some}
use Rattle.ob_model.specs.declared.reply.Answer.{Answer}
use Rattle.ob_model.specs.declared.reply.Event.{Event}
use Rattle.ob_model.specs.declared.reply.Event.TheVariants.{Start, Resume, Abandon}
use Rattle.ob_model.specs.PendingOpens.{pending_of}
use Rattle.ob_model.specs.Run.{Entry, Run}
use Rattle.ob_model.specs.Step.{Step}
use Rattle.ob_entries.specs.Segments as journal
use Rattle.ob_entries.specs.Segments.{most_entries, joined, AreSealed}
use Rattle.ob_standard.specs.Standard.{StandardKind, Standard, standard, IsFresh}
use Rattle.ob_standard_core.specs.Machine.{Space}
use Rattle.ob_lines.specs.Lines.{lines_of}
use Rattle.ob_reader.specs.declared.header.Header.{Header}
use Rattle.ob_reader.specs.declared.header.Header.TheVariants.{Whole, Segment}
use Rattle.ob_reader.specs.declared.line.Line.{Line}
use Rattle.ob_reader.specs.declared.line.SegmentLine.{SegmentLine}
use Rattle.ob_reader.specs.declared.line.SegmentLine.TheVariants as says
use Rattle.ob_reader.specs.Reading.{◌>>=◌, only_if, header_for, line_for, segment_line_for, said_of, line_about}
use Rattle.ob_journal.specs.declared.position.Position.{Position}
use Rattle.ob_journal.specs.declared.report.Report.{Report}
use Rattle.ob_journal.specs.declared.report.Cause.{Cause}
use Rattle.ob_journal.specs.declared.report.Cause.TheVariants as cause
use Rattle.ob_journal.specs.declared.report.CheckFault.{CheckFault}
use Rattle.ob_journal.specs.declared.report.CheckFault.TheVariants.{Refused, Memory}

abbrev pub Entries : Type 0
Entries = List (Entry StandardKind)

-- ---- segments: a journal of version 1 is a single one

-- what a header says: how many seats there are, which segment begins, and the number of its first entry
abbrev pub seats_of : Header → ℕ
seats_of (Whole seats) = seats
seats_of (Segment seats segment first) = seats

abbrev pub segment_of : Header → ℕ
segment_of (Whole seats) = 1
segment_of (Segment seats segment first) = segment

abbrev pub first_of : Header → ℕ
first_of (Whole seats) = 1
first_of (Segment seats segment first) = first

-- the header that line 1 is: in version 2 that of segment 1, which begins with entry 1
abbrev pub begins_journal : Header → Bool
begins_journal (Whole seats) = true
begins_journal (Segment seats segment first) = segment == 1 && first == 1

abbrev pub first_header_for : List ℕ → Option Header
first_header_for line = header_for line >>= (λ header. only_if (begins_journal header) (Some header))

-- the header of the segment that follows at a position: of as many seats, with the next number, and the next entry as its first
abbrev pub next_header : Position → Header
next_header p = Segment (seats_of p.header) (segment_of p.header + 1) (p.count + 1)

-- the positions after line 1, after the header of the next segment, and after an entry
abbrev pub after_first : Header → Position
after_first header = record { header = header; count = 0 }

abbrev pub after_header : Position → Position
after_header p = record { header = next_header p; count = p.count }

abbrev pub after_entry : Position → Position
after_entry p = record { header = p.header; count = p.count + 1 }

-- ---- lines

-- what a line says after such a header: in version 1 no line except the first is a header
abbrev pub said_after : Header → List ℕ → SegmentLine
said_after (Whole seats) line = says.Entry (line_for line)
said_after (Segment seats segment first) line = segment_line_for line

-- a line begins the next segment: it is its header, and the segment before has an entry
pub record BeginsSegment (p : Position) (line : List ℕ) : Type 0 where
  pub said : said_after p.header line ≡ says.Header (Some (next_header p))
  pub before : first_of p.header ≤ p.count

-- a line says an entry: the seat is there, and the segment has fewer than 1,048,576 entries before it
pub record TellsEntry (p : Position) (line : List ℕ) (e : Entry StandardKind) : Type 0 where
  pub said : said_after p.header line ≡ says.Entry (Some (line_about e))
  pub seat : e.seat < seats_of p.header
  pub room : p.count + 1 < first_of p.header + most_entries

-- from one position to another lines say entries: each line begins the next segment, or says the next of the entries
abbrev pub Tell : Position → List (List ℕ) → Entries → Position → Type 0
Tell p [] [] q = q ≡ p
Tell p [] (e ∷ es) q = ⊥
Tell p (l ∷ ls) [] q = BeginsSegment p l × Tell (after_header p) ls [] q
Tell p (l ∷ ls) (e ∷ es) q = (BeginsSegment p l × Tell (after_header p) ls (e ∷ es) q) ⊎ (TellsEntry p l e × Tell (after_entry p) ls es q)

-- the lines after this first header are those of a run of the machine, over the standard set, that leads to this state and position
pub record AreOfRun (header : Header) (lines : List (List ℕ)) (state : Space) (end : Position) : Type 0 where
  pub first : Standard
  pub entries : Entries
  pub is_fresh : IsFresh first
  pub run : Run standard first entries state
  pub told : Tell (after_first header) lines entries end

-- the text of a journal is a first header, and these lines
abbrev pub IsHeaded : List ℕ → Header → List (List ℕ) → Type 0
IsHeaded text header lines = (line : List ℕ) × (lines_of text ≡ line ∷ lines) × (first_header_for line ≡ Some header)

-- the report of a journal: its entries, and the objects and handles at its end
abbrev pub report_of : Position → Space → Report
report_of end s = record { entries = end.count; objects = length s.objects; handles = length s.handles }

-- a journal is that of a run, and this is its report
pub record IsAccepted (text : List ℕ) (report : Report) : Type 0 where
  pub header : Header
  pub lines : List (List ℕ)
  pub state : Space
  pub end : Position
  pub headed : IsHeaded text header lines
  pub of_run : AreOfRun header lines state end
  pub told : report ≡ report_of end state

-- ---- where a journal is refused

-- the first of these causes whose test holds
abbrev pub first_cause : List (Bool × Cause) → Option Cause
first_cause [] = None
first_cause (t ∷ ts) = if t.0 then Some t.1 else first_cause ts

-- the ticket of a resume or an abandon isn't pending
abbrev pub lacks_ticket : Space → Event StandardKind → Bool
lacks_ticket s (Start p command) = false
lacks_ticket s (Resume ticket parse) = not (is_some (pending_of s ticket))
lacks_ticket s (Abandon ticket parse) = not (is_some (pending_of s ticket))

-- the next entry is one of the first 1,048,576 of its segment
abbrev pub has_room : Position → Bool
has_room p = nat_lt (p.count + 1) (first_of p.header + most_entries)

-- the causes that are judged before the step is made: another number than the next, or a segment without room; a seat that isn't
-- there; a ticket that isn't pending
abbrev pub early_causes : Space → Position → Line → List (Bool × Cause)
early_causes s p line =
    (not (line.number == p.count + 1) || not (has_room p), cause.Number)
    ∷ (not (nat_lt line.seat (seats_of p.header)), cause.Seat)
    ∷ (lacks_ticket s line.step, cause.Ticket) ∷ []

-- the step that a line says has no such reply
abbrev pub IsNoReply : Space → Line → Type 0
IsNoReply s line = (answer : Answer) (t : Space) → Step standard s line.step answer t → said_of answer ≡ line.reply → ⊥

-- what a line says is refused for this cause, at this position and in this state: a header that doesn't begin the next segment; a
-- line that is no entry; or an entry
abbrev pub IsRefused : Space → Position → SegmentLine → Cause → Type 0
IsRefused s p (says.Header found) why = (why ≡ cause.Header) × (found ≡ Some (next_header p) → first_of p.header ≤ p.count → ⊥)
IsRefused s p (says.Entry None) why = why ≡ cause.Syntax
IsRefused s p (says.Entry (Some line)) why =
    MatchOption (first_cause (early_causes s p line)) ((why ≡ cause.Reply) × IsNoReply s line) (λ first. why ≡ first)

abbrev pub IsRefusedLine : Space → Position → List ℕ → Cause → Type 0
IsRefusedLine s p line why = IsRefused s p (said_after p.header line) why

-- A journal stops being that of a run at this line: its first line is no header; or the lines before are those of a run, and
-- this one is refused at the position and in the state that they lead to.
pub data StopsAt (text : List ℕ) : ℕ → Cause → Type 0 where
  no_line : lines_of text ≡ [] → StopsAt text 1 cause.Header
  no_header : (line : List ℕ) (behind : List (List ℕ)) → lines_of text ≡ line ∷ behind → first_header_for line ≡ None → StopsAt text 1 cause.Header
  at_line : (header : Header) (before behind : List (List ℕ)) (line : List ℕ) (state : Space) (position : Position) (why : Cause)
      → IsHeaded text header (before ++ line ∷ behind) → AreOfRun header before state position → IsRefusedLine state position line why
      → StopsAt text (length before + 2) why

-- what a fault of the check says of a journal
abbrev pub IsFault : List ℕ → CheckFault → Type 0
IsFault text (Refused line why) = StopsAt text line why
IsFault text Memory = Unit {0}

-- ---- what a refusal means

-- the lines of a journal up to the one of this number, of which the first is its header, are those of no run
abbrev pub AreOfNoRun : List ℕ → ℕ → Type 0
AreOfNoRun text number =
    (header : Header) (before behind : List (List ℕ)) (line : List ℕ) (state : Space) (end : Position)
    → IsHeaded text header (before ++ line ∷ behind) → number ≡ length before + 2 → AreOfRun header (before ++ line ∷ []) state end → ⊥

-- where a journal stops being that of a run, no run has the lines up to there, and the journal isn't accepted
abbrev pub WhatStopsIsNoRun : Type 0
WhatStopsIsNoRun = (text : List ℕ) (number : ℕ) (why : Cause) → StopsAt text number why → AreOfNoRun text number

abbrev pub WhatStopsIsRefused : Type 0
WhatStopsIsRefused = (text : List ℕ) (number : ℕ) (why : Cause) (report : Report) → StopsAt text number why → IsAccepted text report → ⊥

-- ---- how lines say entries

-- the position after lines counts the entries that they say; in version 1 each line says one, of 1,048,576 at most
abbrev pub WhatIsToldIsCounted : Type 0
WhatIsToldIsCounted =
    (header : Header) (lines : List (List ℕ)) (entries : Entries) (end : Position) → Tell (after_first header) lines entries end → end.count ≡ length entries

abbrev pub WhatIsToldWholeIsFew : Type 0
WhatIsToldWholeIsFew =
    (seats : ℕ) (lines : List (List ℕ)) (entries : Entries) (end : Position) → Tell (after_first (Whole seats)) lines entries end
    → (length entries ≡ length lines) × (length entries ≤ most_entries)

-- entries are cut into segments, sealed ones in order and the open one after them, whose header the position has
pub record AreInSegments (entries : Entries) (end : Position) : Type 0 where
  pub sealed : List (journal.Segment StandardKind)
  pub last : Entries
  pub whole : entries ≡ joined sealed ++ last
  pub are_sealed : AreSealed 1 1 sealed
  pub few : length last ≤ most_entries
  pub segment : segment_of end.header ≡ length sealed + 1
  pub first : first_of end.header ≡ length (joined sealed) + 1

-- in version 2 the entries that lines say are cut so
abbrev pub WhatIsToldIsInSegments : Type 0
WhatIsToldIsInSegments =
    (seats : ℕ) (lines : List (List ℕ)) (entries : Entries) (end : Position) → Tell (after_first (Segment seats 1 1)) lines entries end → AreInSegments entries end
