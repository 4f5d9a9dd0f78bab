-- The content of a journal's lines, by their form alone: a header says how many seats there are and, in version 2,
-- which segment begins, and any other line the number, the seat, the step and the reply of an entry.
--
-- Sources: RFC 8259 for JSON, as `serde_json` reads it; the keys, and the form of texts, are this profile.
use Rattle.std.specs.Prelude.{ℕ, ◌+◌, ◌*◌, ◌^◌, Bool, true, false, not, ◌&&◌, ◌||◌, ◌==◌, nat_lt, nat_le, if◌then◌else◌, List, [], ◌∷◌, map, find, Option, None, Some, is_some, is_none, option_map, option_and_then, codes, bytes_eq}
use Rattle.std.specs.Option.{option_map_or}
use Rattle.std.specs.Char.{digit_value}
use Rattle.std.specs.Str.{is_utf8}
use Rattle.either.specs.declared.Either.TheVariants.{Left, Right}
use Rattle.serde_json.specs.Data.{Data, Items, no_items, item}
use Rattle.serde_json.specs.Events.{items_len, members_len}
use Rattle.serde_json.specs.Find.{get, at, as_null, as_bool, as_number, as_u64, as_str, as_array, as_object}
use Rattle.serde_json.specs.Read.{read}
use Rattle.ob_base.specs.declared.status.Status.TheVariants.{Success, MoreEntries, NoMoreEntries, BufferTooSmall}
use Rattle.ob_base.specs.Status.{code_of}
use Rattle.ob_model.specs.declared.command.Command.{Command}
use Rattle.ob_model.specs.declared.command.Command.TheVariants as command
use Rattle.ob_model.specs.declared.command.Place.{Place}
use Rattle.ob_model.specs.declared.command.Place.TheVariants.{At, Unnamed}
use Rattle.ob_model.specs.declared.entries.Listed.{Listed}
use Rattle.ob_model.specs.declared.reply.Answer.{Answer}
use Rattle.ob_model.specs.declared.reply.Answer.TheVariants as answer
use Rattle.ob_model.specs.declared.reply.Event.{Event}
use Rattle.ob_model.specs.declared.reply.Event.TheVariants.{Start, Resume, Abandon}
use Rattle.ob_model.specs.declared.reply.Given.{Given}
use Rattle.ob_model.specs.declared.reply.Given.TheVariants as given
use Rattle.ob_model.specs.declared.reply.ParseRun.{ParseRun}
use Rattle.ob_model.specs.declared.reply.ParseRun.TheVariants.{Unrun, Ran, NoMemory}
use Rattle.ob_model.specs.Run.{Entry}
use Rattle.ob_plain.specs.declared.plain.PlainKind.TheVariants as plain
use Rattle.ob_device.specs.declared.device.DeviceKind.TheVariants as device
use Rattle.ob_key.specs.declared.key.KeyKind.TheVariants as key_kind
use Rattle.ob_standard.specs.Standard.{StandardKind, standard}
use Rattle.ob_entries.specs.declared.words.Operation.{Operation}
use Rattle.ob_entries.specs.declared.words.Operation.TheVariants as operation
use Rattle.ob_entries.specs.Lines.{is_itself}
use Rattle.ob_entries.specs.Words.{operation_for, parse_for}
use Rattle.ob_reader.specs.declared.header.Header.{Header}
use Rattle.ob_reader.specs.declared.header.Header.TheVariants.{Whole, Segment}
use Rattle.ob_reader.specs.declared.line.Line.{Line}
use Rattle.ob_reader.specs.declared.line.SegmentLine.{SegmentLine}
use Rattle.ob_reader.specs.declared.line.SegmentLine.TheVariants as segment_line
use Rattle.ob_reader.specs.declared.said.Gift.{Gift}
use Rattle.ob_reader.specs.declared.said.Gift.TheVariants.{Nothing, Handle, Text, Process, Page}
use Rattle.ob_reader.specs.declared.said.Said.{Said}
use Rattle.ob_reader.specs.declared.said.Said.TheVariants.{Ticket, Done}

-- what comes of a value, where there is one
infixl 10 ◌>>=◌
abbrev pub ◌>>=◌ : {A B : Type 0} → Option A → (A → Option B) → Option B
value >>= next = option_and_then next value

-- a value, but only where the test holds
abbrev pub only_if : {A : Type 0} → Bool → Option A → Option A
only_if test value = if test then value else None

-- ---- texts

-- the value of a hexadecimal digit, of either case
abbrev pub digit_for : ℕ → Option ℕ
digit_for byte = only_if (nat_lt (digit_value byte) 16) (Some (digit_value byte))

-- the byte that two hexadecimal digits after `%` mean; none that is itself in a text is written so
abbrev pub byte_for : ℕ → ℕ → Option ℕ
byte_for high low = do
  h ← digit_for high
  l ← digit_for low
  only_if (not (is_itself (16 * h + l))) (Some (16 * h + l))

-- the bytes with this one in front
abbrev pub with_byte : ℕ → Option (List ℕ) → Option (List ℕ)
with_byte byte bytes = option_map (λ others. byte ∷ others) bytes

-- the bytes that a text means: `%` (0x25) and two digits are one, any other byte is itself, or the text has no such
-- form
unfoldable pub unescaped : List ℕ → Option (List ℕ)
unescaped [] = Some []
unescaped (a ∷ b ∷ c ∷ text) = if a == 0x25 then byte_for b c >>= (λ byte. with_byte byte (unescaped text)) else only_if (is_itself a) (with_byte a (unescaped (b ∷ c ∷ text)))
unescaped (a ∷ text) = only_if (is_itself a) (with_byte a (unescaped text))

-- ---- values

-- a whole number below 2^64, and one below 2^32
abbrev pub u64_in : Data → Option ℕ
u64_in d = as_number d >>= as_u64

abbrev pub u32_in : Data → Option ℕ
u32_in d = u64_in d >>= (λ n. only_if (nat_lt n (2 ^ 32)) (Some n))

-- the bytes that a string means
abbrev pub bytes_in : Data → Option (List ℕ)
bytes_in d = as_str d >>= unescaped

abbrev pub is_null : Data → Bool
is_null d = is_some (as_null d)

-- whether a value is an object of so many keys, or a list of so many items
abbrev pub has_members : ℕ → Data → Bool
has_members count d = option_map_or (λ members. members_len members == count) (as_object d) false

abbrev pub has_items : ℕ → Data → Bool
has_items count d = option_map_or (λ items. items_len items == count) (as_array d) false

-- whether an object has a key
abbrev pub has_key : List ℕ → Data → Bool
has_key key d = is_some (get key d)

-- what is under a key
abbrev pub u64_at : List ℕ → Data → Option ℕ
u64_at key d = get key d >>= u64_in

abbrev pub u32_at : List ℕ → Data → Option ℕ
u32_at key d = get key d >>= u32_in

abbrev pub bool_at : List ℕ → Data → Option Bool
bool_at key d = get key d >>= as_bool

abbrev pub text_at : List ℕ → Data → Option (List ℕ)
text_at key d = get key d >>= as_str

abbrev pub bytes_at : List ℕ → Data → Option (List ℕ)
bytes_at key d = text_at key d >>= unescaped

abbrev pub items_at : List ℕ → Data → Option Items
items_at key d = get key d >>= as_array

-- what each item of a list says
abbrev pub each_in : {A : Type 0} → (Data → Option A) → Items → Option (List A)
each_in value no_items = Some []
each_in value (item d ds) = value d >>= (λ x. option_map (λ xs. x ∷ xs) (each_in value ds))

-- ---- types

-- the six kinds of the standard set
abbrev pub kinds : List StandardKind
kinds = Left plain.Event ∷ Left plain.Mutant ∷ Left plain.Section ∷ Right (Left device.Device) ∷ Right (Left device.File) ∷ Right (Right key_kind.Key) ∷ []

-- the kind whose type has this name
abbrev pub kind_for : List ℕ → Option StandardKind
kind_for word = find (λ kind. bytes_eq word (standard.type_name kind)) kinds

-- the names of all types: the namespace's own two, and those of the kinds
abbrev pub type_names : List (List ℕ)
type_names = codes "Directory" ∷ codes "SymbolicLink" ∷ map standard.type_name kinds

abbrev pub type_name_for : List ℕ → Option (List ℕ)
type_name_for word = find (λ name. bytes_eq word name) type_names

-- ---- steps

-- the root handle of a name, and the kind that is wanted: null where there is none
abbrev pub root_in : Data → Option (Option ℕ)
root_in d = if is_null d then Some None else option_map (λ handle. Some handle) (u32_in d)

abbrev pub want_in : Data → Option (Option StandardKind)
want_in d = if is_null d then Some None else option_map (λ kind. Some kind) (as_str d >>= kind_for)

abbrev pub root_at : Data → Option (Option ℕ)
root_at d = get (codes "root") d >>= root_in

abbrev pub want_at : Data → Option (Option StandardKind)
want_at d = get (codes "want") d >>= want_in

-- the place of a create, with this name and this root: a name of null has a root of null
abbrev pub place_of : Data → Data → Option Place
place_of name root = do
  r ← root_in root
  (if is_null name then only_if (is_none r) (Some Unnamed) else option_map (At r) (bytes_in name))

unfoldable pub place_in : Data → Option Place
place_in d = do
  name ← get (codes "name") d
  root ← get (codes "root") d
  place_of name root

unfoldable pub directory_in : Data → Option (Command StandardKind)
directory_in d = do
  place ← place_in d
  flags ← u32_at (codes "flags") d
  Some (command.CreateDirectory place flags)

unfoldable pub shadowed_in : Data → Option (Command StandardKind)
shadowed_in d = do
  place ← place_in d
  flags ← u32_at (codes "flags") d
  shadow ← u32_at (codes "shadow") d
  Some (command.CreateShadowed place flags shadow)

unfoldable pub link_in : Data → Option (Command StandardKind)
link_in d = do
  place ← place_in d
  flags ← u32_at (codes "flags") d
  target ← bytes_at (codes "target") d
  Some (command.CreateLink place flags target)

unfoldable pub object_in : Data → Option (Command StandardKind)
object_in d = do
  place ← place_in d
  flags ← u32_at (codes "flags") d
  kind ← text_at (codes "kind") d >>= kind_for
  args ← bytes_at (codes "args") d
  Some (command.CreateObject place flags kind args)

-- an open: of a directory, of a link, and of an object of the kind that is wanted
unfoldable pub open_directory_in : Data → Option (Command StandardKind)
open_directory_in d = do
  root ← root_at d
  name ← bytes_at (codes "name") d
  flags ← u32_at (codes "flags") d
  Some (command.OpenDirectory root name flags)

unfoldable pub open_link_in : Data → Option (Command StandardKind)
open_link_in d = do
  root ← root_at d
  name ← bytes_at (codes "name") d
  flags ← u32_at (codes "flags") d
  Some (command.OpenLink root name flags)

unfoldable pub open_object_in : Data → Option (Command StandardKind)
open_object_in d = do
  root ← root_at d
  name ← bytes_at (codes "name") d
  flags ← u32_at (codes "flags") d
  want ← want_at d
  Some (command.OpenObject root name flags want)

unfoldable pub duplicate_in : Data → Option (Command StandardKind)
duplicate_in d = do
  handle ← u32_at (codes "handle") d
  to ← u32_at (codes "to") d
  inherit ← bool_at (codes "inherit") d
  Some (command.Duplicate handle to inherit)

unfoldable pub query_in : Data → Option (Command StandardKind)
query_in d = do
  handle ← u32_at (codes "handle") d
  context ← u64_at (codes "context") d
  room ← u32_at (codes "room") d
  single ← bool_at (codes "single") d
  restart ← bool_at (codes "restart") d
  Some (command.QueryDirectory handle context room single restart)

-- a command that takes a handle and nothing else, and the making of a child
abbrev pub of_handle_in : (ℕ → Command StandardKind) → Data → Option (Command StandardKind)
of_handle_in make d = option_map make (u32_at (codes "handle") d)

abbrev pub child_in : Data → Option (Command StandardKind)
child_in d = option_map (λ inherit. command.NewProcess inherit) (bool_at (codes "inherit") d)

-- the start of a command by the process that asks
unfoldable pub start_in : Option (Command StandardKind) → Data → Option (Event StandardKind)
start_in asked d = do
  process ← u32_at (codes "proc") d
  c ← asked
  Some (Start process c)

-- what became of the parse of a pending open
abbrev pub parse_at : Data → Option ParseRun
parse_at d = text_at (codes "parse") d >>= parse_for

abbrev pub was_run : ParseRun → Bool
was_run Unrun = false
was_run Ran = true
was_run NoMemory = true

-- what is brought to a pending open: a parse was run where the open is to go on
unfoldable pub resume_in : Data → Option (Event StandardKind)
resume_in d = do
  ticket ← u64_at (codes "ticket") d
  parse ← parse_at d
  only_if (was_run parse) (Some (Resume ticket parse))

unfoldable pub abandon_in : Data → Option (Event StandardKind)
abandon_in d = do
  ticket ← u64_at (codes "ticket") d
  parse ← parse_at d
  Some (Abandon ticket parse)

-- how many keys the step of an operation has, `op` among them
abbrev pub keys_of : Operation → ℕ
keys_of operation.Directory = 5
keys_of operation.Shadow = 6
keys_of operation.Link = 6
keys_of operation.Make = 7
keys_of operation.OpenDirectory = 5
keys_of operation.OpenLink = 5
keys_of operation.Open = 6
keys_of operation.Close = 3
keys_of operation.Temporary = 3
keys_of operation.Permanent = 3
keys_of operation.Target = 3
keys_of operation.Name = 3
keys_of operation.DeviceMap = 3
keys_of operation.Duplicate = 5
keys_of operation.Page = 7
keys_of operation.NewProcess = 3
keys_of operation.Exit = 2
keys_of operation.Resume = 3
keys_of operation.Abandon = 3

-- the event that the keys of an operation's step say
abbrev pub event_in : Operation → Data → Option (Event StandardKind)
event_in operation.Directory d = start_in (directory_in d) d
event_in operation.Shadow d = start_in (shadowed_in d) d
event_in operation.Link d = start_in (link_in d) d
event_in operation.Make d = start_in (object_in d) d
event_in operation.OpenDirectory d = start_in (open_directory_in d) d
event_in operation.OpenLink d = start_in (open_link_in d) d
event_in operation.Open d = start_in (open_object_in d) d
event_in operation.Close d = start_in (of_handle_in (λ handle. command.Close handle) d) d
event_in operation.Temporary d = start_in (of_handle_in (λ handle. command.MakeTemporary handle) d) d
event_in operation.Permanent d = start_in (of_handle_in (λ handle. command.MakePermanent handle) d) d
event_in operation.Target d = start_in (of_handle_in (λ handle. command.QueryLink handle) d) d
event_in operation.Name d = start_in (of_handle_in (λ handle. command.QueryName handle) d) d
event_in operation.DeviceMap d = start_in (of_handle_in (λ handle. command.SetDeviceMap handle) d) d
event_in operation.Duplicate d = start_in (duplicate_in d) d
event_in operation.Page d = start_in (query_in d) d
event_in operation.NewProcess d = start_in (child_in d) d
event_in operation.Exit d = start_in (Some command.ExitProcess) d
event_in operation.Resume d = resume_in d
event_in operation.Abandon d = abandon_in d

-- the event that a step says
unfoldable pub step_in : Data → Option (Event StandardKind)
step_in d = do
  operation ← text_at (codes "op") d >>= operation_for
  only_if (has_members (keys_of operation) d) (event_in operation d)

-- ---- replies

-- an entry of a page: a list of its name and its type's name
unfoldable pub listed_in : Data → Option Listed
listed_in d = only_if (has_items 2 d) (do
  name ← at 0 d >>= bytes_in
  type_name ← at 1 d >>= as_str >>= type_name_for
  Some (record { name = name; type_name = type_name }))

-- the statuses that a page comes with
abbrev pub is_page_status : ℕ → Bool
is_page_status status = status == code_of Success || status == code_of MoreEntries || status == code_of NoMoreEntries || status == code_of BufferTooSmall

-- what is given, where it takes one key beside `status`, and where it takes two
unfoldable pub handle_or_text_in : Data → Option Gift
handle_or_text_in d = if has_key (codes "handle") d then option_map (λ handle. Handle handle) (u32_at (codes "handle") d) else option_map (λ text. Text text) (bytes_at (codes "text") d)

unfoldable pub process_in : Data → Option Gift
process_in d = do
  process ← u64_at (codes "process") d
  handles ← items_at (codes "handles") d >>= each_in u64_in
  Some (Process process handles)

unfoldable pub page_in : ℕ → Data → Option Gift
page_in status d = only_if (is_page_status status) (do
  entries ← items_at (codes "entries") d >>= each_in listed_in
  context ← u64_at (codes "context") d
  Some (Page entries context))

unfoldable pub process_or_page_in : ℕ → Data → Option Gift
process_or_page_in status d = if has_key (codes "process") d then process_in d else page_in status d

-- what is given beside a status
unfoldable pub gift_in : ℕ → Data → Option Gift
gift_in status d = if has_members 1 d then Some Nothing else (if has_members 2 d then handle_or_text_in d else only_if (has_members 3 d) (process_or_page_in status d))

unfoldable pub done_in : Data → Option Said
done_in d = do
  status ← u64_at (codes "status") d
  gift ← gift_in status d
  Some (Done status gift)

-- how a step ended, as a reply says it: with a ticket and nothing else, or with a status and what is given
unfoldable pub reply_in : Data → Option Said
reply_in d = if has_key (codes "ticket") d then only_if (has_members 1 d) (option_map (λ ticket. Ticket ticket) (u64_at (codes "ticket") d)) else done_in d

-- ---- lines

-- an entry
unfoldable pub line_in : Data → Option Line
line_in d = only_if (has_members 4 d) (do
  number ← u64_at (codes "n") d
  seat ← u64_at (codes "seat") d
  step ← get (codes "step") d >>= step_in
  reply ← get (codes "reply") d >>= reply_in
  Some (record { number = number; seat = seat; step = step; reply = reply }))

-- whether version 1 has an event: it has no create of a directory with a shadow
abbrev pub is_in_version_1 : Event StandardKind → Bool
is_in_version_1 (Start p (command.CreateShadowed place flags shadow)) = false
is_in_version_1 event = true

-- an entry, where version 1 has its event
abbrev pub in_version_1 : Line → Option Line
in_version_1 line = only_if (is_in_version_1 line.step) (Some line)

-- how many seats a header says that there are
unfoldable pub seats_in : Data → Option ℕ
seats_in d = do
  seats ← u64_at (codes "seats") d
  only_if (nat_le 1 seats && nat_le seats 1024) (Some seats)

-- a header of version 1, which has two keys, and one of a segment in version 2, which has four
unfoldable pub whole_in : Data → Option Header
whole_in d = do
  version ← u64_at (codes "journal") d
  seats ← seats_in d
  only_if (version == 1) (Some (Whole seats))

unfoldable pub segment_in : Data → Option Header
segment_in d = only_if (has_members 4 d) (do
  version ← u64_at (codes "journal") d
  seats ← seats_in d
  segment ← u64_at (codes "segment") d
  first ← u64_at (codes "first") d
  only_if (version == 2) (Some (Segment seats segment first)))

unfoldable pub header_in : Data → Option Header
header_in d = if has_members 2 d then whole_in d else segment_in d

-- the value that a line is, without its LF: none where its bytes aren't UTF-8, or no JSON
unfoldable pub value_for : List ℕ → Option Data
value_for line = only_if (is_utf8 line) (read line)

-- what a line says, without its LF: an entry in version 1, an entry in version 2, or a header of either version
unfoldable pub line_for : List ℕ → Option Line
line_for line = value_for line >>= line_in >>= in_version_1

unfoldable pub entry_for : List ℕ → Option Line
entry_for line = value_for line >>= line_in

unfoldable pub header_for : List ℕ → Option Header
header_for line = value_for line >>= header_in

-- whether a line is an object with the key `journal`
unfoldable pub is_header : List ℕ → Bool
is_header line = option_map_or (has_key (codes "journal")) (value_for line) false

-- what a line of version 2 says, other than the first: one with that key a header, or nothing; any other an entry, or nothing
unfoldable pub segment_line_for : List ℕ → SegmentLine
segment_line_for line = if is_header line then segment_line.Header (header_for line) else segment_line.Entry (entry_for line)

-- ---- what a line says of an answer

abbrev pub gift_of : Given → Gift
gift_of given.Nothing = Nothing
gift_of (given.Handle handle) = Handle handle
gift_of (given.Text text) = Text text
gift_of (given.Process process handles) = Process process handles
gift_of (given.Page entries context) = Page entries context

abbrev pub said_of : Answer → Said
said_of (answer.Done reply) = Done (code_of reply.status) (gift_of reply.given)
said_of (answer.Ticket ticket) = Ticket ticket

-- what a line says of an entry
abbrev pub line_about : Entry StandardKind → Line
line_about e = record { number = e.number; seat = e.seat; step = e.event; reply = said_of e.answer }
