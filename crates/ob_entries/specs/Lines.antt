-- The lines of a journal, version 2: for each segment a header, and a line for each entry, each a compact JSON object with its
-- keys in rising order, and LF.
--
-- Sources: RFC 8259 for JSON, as `serde_json` writes it without blanks; the keys, and the form of texts, are this profile.
use Rattle.std.specs.Prelude.{ℕ, ◌/◌, ◌%◌, ◌+◌, Bool, ◌&&◌, not, ◌==◌, nat_lt, nat_le, if◌then◌else◌, List, [], ◌∷◌, ◌++◌, Option, None, Some, codes}
use Rattle.serde_json.specs.Data.{Data, null, boolean, number, unsigned, string, array, object, Items, no_items, item, Members, no_members, member}
use Rattle.serde_json.specs.Written.{compact_text}
use Rattle.ob_base.specs.Status.{code_of}
use Rattle.ob_model.specs.declared.command.Command.{Command}
use Rattle.ob_model.specs.declared.command.Command.TheVariants.{CreateDirectory, CreateShadowed, CreateLink, CreateObject, OpenDirectory, OpenLink, OpenObject, Close, QueryLink, QueryName, QueryDirectory, Duplicate, MakeTemporary, MakePermanent, SetDeviceMap, NewProcess, ExitProcess}
use Rattle.ob_model.specs.declared.command.Place.{Place}
use Rattle.ob_model.specs.declared.command.Place.TheVariants.{At, Unnamed}
use Rattle.ob_model.specs.declared.entries.Listed.{Listed}
use Rattle.ob_model.specs.declared.reply.Answer.{Answer}
use Rattle.ob_model.specs.declared.reply.Answer.TheVariants.{Done, Ticket}
use Rattle.ob_model.specs.declared.reply.Event.{Event}
use Rattle.ob_model.specs.declared.reply.Event.TheVariants.{Start, Resume, Abandon}
use Rattle.ob_model.specs.declared.reply.Given.{Given}
use Rattle.ob_model.specs.declared.reply.Given.TheVariants.{Nothing, Handle, Text, Process, Page}
use Rattle.ob_model.specs.declared.reply.ParseRun.{ParseRun}
use Rattle.ob_model.specs.declared.reply.ParseRun.TheVariants.{Unrun, Ran, NoMemory}
use Rattle.ob_model.specs.Run.{Entry}
use Rattle.ob_entries.specs.Segments.{Segment}

-- ---- texts

-- a byte that is itself in a text: 0x20 to 0x7E, except for `"` (0x22) and `%` (0x25)
abbrev pub is_itself : ℕ → Bool
is_itself byte = nat_le 0x20 byte && nat_le byte 0x7E && not (byte == 0x22) && not (byte == 0x25)

-- the hexadecimal digit of a number below sixteen, in upper case
abbrev pub hex_digit : ℕ → ℕ
hex_digit n = if nat_lt n 10 then 0x30 + n else 0x37 + n

-- a byte in a text: itself, or `%` (0x25) and its two hexadecimal digits
abbrev pub escaped_byte : ℕ → List ℕ
escaped_byte byte = if is_itself byte then byte ∷ [] else 0x25 ∷ hex_digit (byte / 16) ∷ hex_digit (byte % 16) ∷ []

abbrev pub escaped : List ℕ → List ℕ
escaped [] = []
escaped (byte ∷ bytes) = escaped_byte byte ++ escaped bytes

-- ---- values

-- bytes as a text, and a number
abbrev pub text_value : List ℕ → Data
text_value bytes = string (escaped bytes)

abbrev pub number_value : ℕ → Data
number_value n = number (unsigned n)

-- a value that may lack
abbrev pub value_or_null : {A : Type 0} → (A → Data) → Option A → Data
value_or_null value None = null
value_or_null value (Some x) = value x

-- an object of these keys and their values
abbrev pub members_of : List (List ℕ × Data) → Members
members_of [] = no_members
members_of (m ∷ ms) = member m.0 m.1 (members_of ms)

abbrev pub object_of : List (List ℕ × Data) → Data
object_of ms = object (members_of ms)

-- a list of values
abbrev pub items_of : {A : Type 0} → (A → Data) → List A → Items
items_of value [] = no_items
items_of value (x ∷ xs) = item (value x) (items_of value xs)

-- ---- steps

-- the root handle and the name of a place: both lack where an object gets no name
abbrev pub root_of : Place → Option ℕ
root_of (At root name) = root
root_of Unnamed = None

abbrev pub name_of : Place → Option (List ℕ)
name_of (At root name) = Some name
name_of Unnamed = None

-- what became of a parse
abbrev pub parse_word : ParseRun → List ℕ
parse_word Unrun = codes "none"
parse_word Ran = codes "ran"
parse_word NoMemory = codes "nomem"

-- a step of a process that takes a handle and nothing else
abbrev pub handle_step : List ℕ → ℕ → ℕ → Data
handle_step op p handle =
    object_of ((codes "handle", number_value handle) ∷ (codes "op", string op) ∷ (codes "proc", number_value p) ∷ [])

-- an open, except for the type that it asks for
abbrev pub open_step : List ℕ → ℕ → Option ℕ → List ℕ → ℕ → Data
open_step op p root name flags =
    object_of (
    (codes "flags", number_value flags)
    ∷ (codes "name", text_value name)
    ∷ (codes "op", string op)
    ∷ (codes "proc", number_value p)
    ∷ (codes "root", value_or_null number_value root) ∷ [])

-- what is brought to a pending open
abbrev pub brought_step : List ℕ → ℕ → ParseRun → Data
brought_step op ticket parse =
    object_of ((codes "op", string op) ∷ (codes "parse", string (parse_word parse)) ∷ (codes "ticket", number_value ticket) ∷ [])

-- the kinds of a set have these names
module _ {K : Type 0} (type_name : K → List ℕ) where
  abbrev pub kind_value : K → Data
  kind_value kind = string (type_name kind)

  -- a command of a process
  abbrev pub command_step : ℕ → Command K → Data
  command_step p (CreateDirectory place flags) =
      object_of (
      (codes "flags", number_value flags)
      ∷ (codes "name", value_or_null text_value (name_of place))
      ∷ (codes "op", string (codes "dir"))
      ∷ (codes "proc", number_value p)
      ∷ (codes "root", value_or_null number_value (root_of place)) ∷ [])
  command_step p (CreateShadowed place flags shadow) =
      object_of (
      (codes "flags", number_value flags)
      ∷ (codes "name", value_or_null text_value (name_of place))
      ∷ (codes "op", string (codes "shadow"))
      ∷ (codes "proc", number_value p)
      ∷ (codes "root", value_or_null number_value (root_of place))
      ∷ (codes "shadow", number_value shadow) ∷ [])
  command_step p (CreateLink place flags target) =
      object_of (
      (codes "flags", number_value flags)
      ∷ (codes "name", value_or_null text_value (name_of place))
      ∷ (codes "op", string (codes "link"))
      ∷ (codes "proc", number_value p)
      ∷ (codes "root", value_or_null number_value (root_of place))
      ∷ (codes "target", text_value target) ∷ [])
  command_step p (CreateObject place flags kind args) =
      object_of (
      (codes "args", text_value args)
      ∷ (codes "flags", number_value flags)
      ∷ (codes "kind", kind_value kind)
      ∷ (codes "name", value_or_null text_value (name_of place))
      ∷ (codes "op", string (codes "make"))
      ∷ (codes "proc", number_value p)
      ∷ (codes "root", value_or_null number_value (root_of place)) ∷ [])
  command_step p (OpenDirectory root name flags) = open_step (codes "opendir") p root name flags
  command_step p (OpenLink root name flags) = open_step (codes "openlink") p root name flags
  command_step p (OpenObject root name flags want) =
      object_of (
      (codes "flags", number_value flags)
      ∷ (codes "name", text_value name)
      ∷ (codes "op", string (codes "open"))
      ∷ (codes "proc", number_value p)
      ∷ (codes "root", value_or_null number_value root)
      ∷ (codes "want", value_or_null kind_value want) ∷ [])
  command_step p (Close handle) = handle_step (codes "close") p handle
  command_step p (QueryLink handle) = handle_step (codes "target") p handle
  command_step p (QueryName handle) = handle_step (codes "name") p handle
  command_step p (QueryDirectory handle context room single restart) =
      object_of (
      (codes "context", number_value context)
      ∷ (codes "handle", number_value handle)
      ∷ (codes "op", string (codes "list"))
      ∷ (codes "proc", number_value p)
      ∷ (codes "restart", boolean restart)
      ∷ (codes "room", number_value room)
      ∷ (codes "single", boolean single) ∷ [])
  command_step p (Duplicate handle to inherit) =
      object_of (
      (codes "handle", number_value handle)
      ∷ (codes "inherit", boolean inherit)
      ∷ (codes "op", string (codes "dup"))
      ∷ (codes "proc", number_value p)
      ∷ (codes "to", number_value to) ∷ [])
  command_step p (MakeTemporary handle) = handle_step (codes "temp") p handle
  command_step p (MakePermanent handle) = handle_step (codes "perm") p handle
  command_step p (SetDeviceMap handle) = handle_step (codes "map") p handle
  command_step p (NewProcess inherit) =
      object_of ((codes "inherit", boolean inherit) ∷ (codes "op", string (codes "new")) ∷ (codes "proc", number_value p) ∷ [])
  command_step p ExitProcess = object_of ((codes "op", string (codes "exit")) ∷ (codes "proc", number_value p) ∷ [])

  -- an event
  abbrev pub step_value : Event K → Data
  step_value (Start p command) = command_step p command
  step_value (Resume ticket parse) = brought_step (codes "resume") ticket parse
  step_value (Abandon ticket parse) = brought_step (codes "abandon") ticket parse

-- ---- replies

-- an entry of a page: its name and its type's name
abbrev pub listed_value : Listed → Data
listed_value e = array (item (text_value e.name) (item (string e.type_name) no_items))

-- a status and what is given with it
abbrev pub reply_value : ℕ → Given → Data
reply_value status Nothing = object_of ((codes "status", number_value status) ∷ [])
reply_value status (Handle handle) = object_of ((codes "handle", number_value handle) ∷ (codes "status", number_value status) ∷ [])
reply_value status (Text text) = object_of ((codes "status", number_value status) ∷ (codes "text", text_value text) ∷ [])
reply_value status (Process process handles) =
    object_of (
    (codes "handles", array (items_of number_value handles))
    ∷ (codes "process", number_value process)
    ∷ (codes "status", number_value status) ∷ [])
reply_value status (Page entries context) =
    object_of (
    (codes "context", number_value context)
    ∷ (codes "entries", array (items_of listed_value entries))
    ∷ (codes "status", number_value status) ∷ [])

-- how an event ended: with a reply, or with an open that waits under a ticket
abbrev pub answer_value : Answer → Data
answer_value (Done reply) = reply_value (code_of reply.status) reply.given
answer_value (Ticket ticket) = object_of ((codes "ticket", number_value ticket) ∷ [])

-- ---- lines

-- a value's line
abbrev pub line_of : Data → List ℕ
line_of value = compact_text value ++ codes "\n"

-- the header of a segment of a journal of so many seats, with its number and that of its first entry
abbrev pub header_value : (seats segment first : ℕ) → Data
header_value seats segment first =
    object_of (
    (codes "first", number_value first)
    ∷ (codes "journal", number_value 2)
    ∷ (codes "seats", number_value seats)
    ∷ (codes "segment", number_value segment) ∷ [])

abbrev pub header_line : (seats segment first : ℕ) → List ℕ
header_line seats segment first = line_of (header_value seats segment first)

module _ {K : Type 0} (type_name : K → List ℕ) where
  -- the line of an entry
  abbrev pub entry_value : Entry K → Data
  entry_value e =
      object_of (
      (codes "n", number_value e.number)
      ∷ (codes "reply", answer_value e.answer)
      ∷ (codes "seat", number_value e.seat)
      ∷ (codes "step", step_value type_name e.event) ∷ [])

  abbrev pub entry_line : Entry K → List ℕ
  entry_line e = line_of (entry_value e)

  -- the lines of entries
  abbrev pub entry_lines : List (Entry K) → List ℕ
  entry_lines [] = []
  entry_lines (e ∷ es) = entry_line e ++ entry_lines es

  -- a segment: its header and its entries
  abbrev pub segment_lines : ℕ → Segment K → List ℕ
  segment_lines seats s = header_line seats s.number s.first ++ entry_lines s.entries

  -- a whole journal: all its segments, the open one last
  abbrev pub journal_lines : ℕ → List (Segment K) → List ℕ
  journal_lines seats [] = []
  journal_lines seats (s ∷ ss) = segment_lines seats s ++ journal_lines seats ss
