-- Rows of a directory's listing as a caller in C reads them: entries that are asked for one after another, and their names in a
-- buffer.
--
-- Source: ZwQueryDirectoryObject (Windows Driver Kit), for an entry, its status and its context; rows are this profile.
use Rattle.std.specs.Prelude.{◌≡◌, ◌≤◌, ◌<◌, ◌+◌, ◌^◌, ◌-◌, ℕ, zero, suc, true, false, List, [], ◌∷◌, ◌++◌, ◌⊎◌, length, drop, map, take, min, Option, None, Some, Result, Ok, Err}
use Rattle.ob_base.specs.Status.{code_of}
use Rattle.ob_base.specs.declared.status.Status.{Status}
use Rattle.ob_base.specs.declared.status.Status.TheVariants.{Success, MoreEntries, NoMoreEntries, InvalidParameter, BufferTooSmall}
use Rattle.ob_model.specs.Enumeration.{largest_room}
use Rattle.ob_model.specs.declared.command.Command.TheVariants.{QueryDirectory}
use Rattle.ob_model.specs.declared.entries.Listed.{Listed}
use Rattle.ob_model.specs.declared.reply.Given.{Given}
use Rattle.ob_model.specs.declared.reply.Given.TheVariants.{Nothing, Handle, Text, Process, Page}
use Rattle.ob_model.specs.declared.reply.Reply.{Reply}
use Rattle.ob_c_state.specs.Machine.{Space}
use Rattle.ob_c_state.specs.Calls.{Ends}
use Rattle.ob_c_state.specs.Reports.{given_in}
use Rattle.ob_numbers.specs.Types.{IsTypeNumber}
use Rattle.ob_c.specs.declared.rows.PageRow.{PageRow}
use Rattle.ob_c.specs.declared.rows.Progress.{Progress}

-- the bytes of a buffer that names are written to
abbrev pub names_room : ℕ → ℕ
names_room capacity = min capacity (2 ^ 32 - 1)

-- a query of the first entry after a context ends so
abbrev pub Asks : (process handle context : ℕ) → Space → Result Reply Status → Space → Type 0
Asks process handle context s ended t = Ends process (QueryDirectory handle context largest_room true false) s ended t

-- the entry that a page gives first, with the context after the page
abbrev pub entry_of : List Listed → ℕ → Option (Listed × ℕ)
entry_of [] context = None
entry_of (entry ∷ entries) context = Some (entry, context)

abbrev pub entry_given : Given → Option (Listed × ℕ)
entry_given Nothing = None
entry_given (Handle value) = None
entry_given (Text text) = None
entry_given (Process child handles) = None
entry_given (Page entries context) = entry_of entries context

abbrev pub entry_in : Result Reply Status → Option (Listed × ℕ)
entry_in ended = entry_given (given_in ended)

-- the status that a query ends with
abbrev pub status_of : Result Reply Status → Status
status_of (Ok reply) = reply.status
status_of (Err status) = status

-- an entry that was read: its name, and its row
pub record Read : Type 0 where
  pub name : List ℕ
  pub row : PageRow

abbrev pub names_of : List Read → List ℕ
names_of [] = []
names_of (read ∷ reads) = read.name ++ names_of reads

-- an entry is read so, with so many bytes of names before its own
abbrev pub IsRead : ℕ → Option (Listed × ℕ) → Read → Type 0
IsRead place None read = ⊥
IsRead place (Some entry) read =
    (read.name ≡ entry.0.name) × (read.row.context ≡ entry.1) × IsTypeNumber entry.0.type_name read.row.number × (read.row.name ≡ place)
    × (read.row.length ≡ length entry.0.name)

-- Entries are read by one query after another, from this progress to the other.
abbrev pub Reads : (process handle : ℕ) → Progress → Space → List Read → Progress → Space → Type 0
Reads process handle from s [] to t = (to ≡ from) × (t ≡ s)
Reads process handle from s (read ∷ reads) to t =
    (ended : Result Reply Status) × (u : Space) × Asks process handle from.context s ended u × IsRead from.place (entry_in ended) read
    × Reads process handle (record { filled = from.filled + 1; place = from.place + length read.name; context = read.row.context }) u reads to t

-- an entry for which there is no row more, or whose name doesn't fit
abbrev pub IsTooMuch : (rows room : ℕ) → Progress → Option (Listed × ℕ) → Type 0
IsTooMuch rows room progress None = Unit {0}
IsTooMuch rows room progress (Some entry) = (progress.filled ≡ rows) ⊎ (room < progress.place + length entry.0.name)

-- The status of a call that filled this many rows before a query ended: other entries follow, or none; an error if it is
-- refused.
abbrev pub none_left : Status → Result Status Status
none_left NoMoreEntries = Ok Success
none_left status = Err status

abbrev pub status_without : (filled : ℕ) → Status → Result Status Status
status_without zero status = Err status
status_without (suc n) status = none_left status

abbrev pub status_with : (filled : ℕ) → Result Status Status
status_with zero = Err BufferTooSmall
status_with (suc n) = Ok MoreEntries

abbrev pub rows_status : Option (Listed × ℕ) → (filled : ℕ) → Status → Result Status Status
rows_status None filled status = status_without filled status
rows_status (Some entry) filled status = status_with filled

-- the number of rows and the context after them are reported; or the call is refused, the number is 0, and
-- the context stays
abbrev pub ReportsProgress : Result Status Status → Progress → (status context context' filled : ℕ) → Type 0
ReportsProgress (Ok is) progress status context context' filled = (status ≡ code_of is) × (context' ≡ progress.context) × (filled ≡ progress.filled)
ReportsProgress (Err is) progress status context context' filled = (status ≡ code_of is) × (context' ≡ context) × (filled ≡ 0)

-- Rows are filled from a state on: these entries are read into the rows and the buffer, and the query after them gives none,
-- or one that is too much.
abbrev pub FillsRows : (process handle : ℕ) → (s t : Space) → (status context context' : ℕ) → (rows rows' : List PageRow) → (buffer buffer' : List ℕ) → (filled : ℕ) → Type 0
FillsRows process handle s t status context context' rows rows' buffer buffer' filled =
    (reads : List Read) × (progress : Progress) × (ended : Result Reply Status) × (u : Space)
    × Reads process handle (record { filled = 0; place = 0; context = context }) s reads progress u
    × Asks process handle progress.context u ended t
    × (rows' ≡ map (λ read. read.row) reads ++ drop progress.filled rows)
    × (buffer' ≡ names_of reads ++ drop progress.place buffer)
    × (progress.place ≤ names_room (length buffer))
    × IsTooMuch (length rows) (names_room (length buffer)) progress (entry_in ended)
    × ReportsProgress (rows_status (entry_in ended) progress.filled (status_of ended)) progress status context context' filled

-- the same in a namespace that may be closed
abbrev pub ReportsRows : (process handle : ℕ) → (old new : Option Space) → (status context context' : ℕ) → (rows rows' : List PageRow) → (buffer buffer' : List ℕ) → (filled : ℕ) → Type 0
ReportsRows process handle None new status context context' rows rows' buffer buffer' filled =
    (new ≡ None) × (status ≡ code_of InvalidParameter) × (context' ≡ context) × (rows' ≡ rows) × (buffer' ≡ buffer) × (filled ≡ 0)
ReportsRows process handle (Some s) new status context context' rows rows' buffer buffer' filled =
    (t : Space) × (new ≡ Some t) × FillsRows process handle s t status context context' rows rows' buffer buffer' filled

-- an entry is written to a row and a buffer
abbrev pub Takes : Option (Listed × ℕ) → (room : ℕ) → (old new : Progress) → (rows rows' : List PageRow) → (buffer buffer' : List ℕ) → Type 0
Takes entry room old new rows rows' buffer buffer' =
    (read : Read) × IsRead old.place entry read × (old.filled < length rows) × (old.place + length read.name ≤ room)
    × (new ≡ record { filled = old.filled + 1; place = old.place + length read.name; context = read.row.context })
    × (rows' ≡ take old.filled rows ++ read.row ∷ drop (old.filled + 1) rows)
    × (buffer' ≡ take old.place buffer ++ read.name ++ drop (old.place + length read.name) buffer)

-- or it isn't, since there is none or it is too much
abbrev pub Leaves : Option (Listed × ℕ) → (room : ℕ) → (old new : Progress) → (rows rows' : List PageRow) → (buffer buffer' : List ℕ) → Type 0
Leaves entry room old new rows rows' buffer buffer' =
    (new ≡ old) × (rows' ≡ rows) × (buffer' ≡ buffer) × IsTooMuch (length rows) room old entry
