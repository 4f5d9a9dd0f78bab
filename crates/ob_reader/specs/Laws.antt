-- The law that the lines that are written are read back, for entries whose numbers and bytes are in range.
--
-- Source: this profile.
use Rattle.std.specs.Prelude.{◌≡◌, ◌≢◌, ℕ, ◌^◌, ◌<◌, ◌≤◌, true, List, ◌++◌, Option, None, Some, codes, ⊤}
use Rattle.std.specs.List.{AllByRecursion}
use Rattle.ob_base.specs.Status.{code_of}
use Rattle.ob_model.specs.declared.command.Command.{Command}
use Rattle.ob_model.specs.declared.command.Command.TheVariants.{CreateDirectory, CreateShadowed, CreateLink, CreateObject, OpenDirectory, OpenLink, OpenObject, Close, QueryLink, QueryName, QueryDirectory, Duplicate, MakeTemporary, MakePermanent, SetDeviceMap, NewProcess, ExitProcess}
use Rattle.ob_model.specs.declared.command.Place.{Place}
use Rattle.ob_model.specs.declared.command.Place.TheVariants.{At, Unnamed}
use Rattle.ob_model.specs.declared.entries.Listed.{Listed}
use Rattle.ob_model.specs.declared.reply.Answer.{Answer}
use Rattle.ob_model.specs.declared.reply.Answer.TheVariants.{Done, Ticket}
use Rattle.ob_model.specs.declared.reply.Event.{Event}
use Rattle.ob_model.specs.declared.reply.Event.TheVariants.{Start, Resume, Abandon}
use Rattle.ob_model.specs.declared.reply.Given.{Given}
use Rattle.ob_model.specs.declared.reply.Given.TheVariants.{Nothing, Handle, Text, Process, Page}
use Rattle.ob_model.specs.declared.reply.ParseRun.TheVariants.{Unrun}
use Rattle.ob_model.specs.Run.{Entry}
use Rattle.ob_standard.specs.Standard.{StandardKind, standard}
use Rattle.ob_entries.specs.Lines.{header_line, entry_line}
use Rattle.ob_reader.specs.declared.header.Header.TheVariants.{Segment}
use Rattle.ob_reader.specs.declared.line.SegmentLine.TheVariants as segment_line
use Rattle.ob_reader.specs.Reading.{only_if, type_name_for, is_page_status, is_in_version_1, line_for, header_for, line_about, segment_line_for}

-- each is a byte
abbrev pub AreBytes : List ℕ → Type 0
AreBytes bytes = AllByRecursion (λ byte. byte < 2 ^ 8) bytes

-- a root handle and a place
abbrev pub IsFitRoot : Option ℕ → Type 0
IsFitRoot None = ⊤
IsFitRoot (Some handle) = handle < 2 ^ 32

abbrev pub IsFitPlace : Place → Type 0
IsFitPlace (At root name) = IsFitRoot root × AreBytes name
IsFitPlace Unnamed = ⊤

-- the numbers of a command fit 32 and 64 bits, and its names and texts are bytes
abbrev pub IsFitCommand : Command StandardKind → Type 0
IsFitCommand (CreateDirectory place flags) = IsFitPlace place × (flags < 2 ^ 32)
IsFitCommand (CreateShadowed place flags shadow) = IsFitPlace place × (flags < 2 ^ 32) × (shadow < 2 ^ 32)
IsFitCommand (CreateLink place flags target) = IsFitPlace place × (flags < 2 ^ 32) × AreBytes target
IsFitCommand (CreateObject place flags kind args) = IsFitPlace place × (flags < 2 ^ 32) × AreBytes args
IsFitCommand (OpenDirectory root name flags) = IsFitRoot root × AreBytes name × (flags < 2 ^ 32)
IsFitCommand (OpenLink root name flags) = IsFitRoot root × AreBytes name × (flags < 2 ^ 32)
IsFitCommand (OpenObject root name flags want) = IsFitRoot root × AreBytes name × (flags < 2 ^ 32)
IsFitCommand (Close handle) = handle < 2 ^ 32
IsFitCommand (QueryLink handle) = handle < 2 ^ 32
IsFitCommand (QueryName handle) = handle < 2 ^ 32
IsFitCommand (QueryDirectory handle context room single restart) = (handle < 2 ^ 32) × (context < 2 ^ 64) × (room < 2 ^ 32)
IsFitCommand (Duplicate handle to inherit) = (handle < 2 ^ 32) × (to < 2 ^ 32)
IsFitCommand (MakeTemporary handle) = handle < 2 ^ 32
IsFitCommand (MakePermanent handle) = handle < 2 ^ 32
IsFitCommand (SetDeviceMap handle) = handle < 2 ^ 32
IsFitCommand (NewProcess inherit) = ⊤
IsFitCommand ExitProcess = ⊤

-- those of an event; a resume brings a parse that was run
abbrev pub IsFitEvent : Event StandardKind → Type 0
IsFitEvent (Start p command) = (p < 2 ^ 32) × IsFitCommand command
IsFitEvent (Resume ticket parse) = (ticket < 2 ^ 64) × (parse ≢ Unrun)
IsFitEvent (Abandon ticket parse) = ticket < 2 ^ 64

-- those of what is given beside a status: a page has types' names, and one of its four statuses
abbrev pub IsFitListed : Listed → Type 0
IsFitListed e = AreBytes e.name × (type_name_for e.type_name ≡ Some e.type_name)

abbrev pub IsFitGiven : ℕ → Given → Type 0
IsFitGiven status Nothing = ⊤
IsFitGiven status (Handle handle) = handle < 2 ^ 32
IsFitGiven status (Text text) = AreBytes text
IsFitGiven status (Process process handles) = (process < 2 ^ 64) × AllByRecursion (λ handle. handle < 2 ^ 64) handles
IsFitGiven status (Page entries context) = AllByRecursion IsFitListed entries × (context < 2 ^ 64) × (is_page_status status ≡ true)

abbrev pub IsFitAnswer : Answer → Type 0
IsFitAnswer (Done reply) = (code_of reply.status < 2 ^ 64) × IsFitGiven (code_of reply.status) reply.given
IsFitAnswer (Ticket ticket) = ticket < 2 ^ 64

-- those of an entry
abbrev pub IsFit : Entry StandardKind → Type 0
IsFit e = (e.number < 2 ^ 64) × (e.seat < 2 ^ 64) × IsFitEvent e.event × IsFitAnswer e.answer

-- the line of an entry, without its LF, says the entry in version 2; in version 1 it does where that version has its event, and else
-- it says nothing
abbrev pub EntryLinesAreRead : Type 0
EntryLinesAreRead =
    (e : Entry StandardKind) (line : List ℕ) → IsFit e → entry_line standard.type_name e ≡ line ++ codes "\n"
    → (line_for line ≡ only_if (is_in_version_1 e.event) (Some (line_about e))) × (segment_line_for line ≡ segment_line.Entry (Some (line_about e)))

-- the line of a header, without its LF, says how many seats there are, which segment begins, and the number of its first entry: as line 1,
-- and as any other
abbrev pub HeaderLinesAreRead : Type 0
HeaderLinesAreRead =
    (seats segment first : ℕ) (line : List ℕ) → 1 ≤ seats → seats ≤ 1024 → segment < 2 ^ 64 → first < 2 ^ 64
    → header_line seats segment first ≡ line ++ codes "\n"
    → (header_for line ≡ Some (Segment seats segment first)) × (segment_line_for line ≡ segment_line.Header (Some (Segment seats segment first)))
