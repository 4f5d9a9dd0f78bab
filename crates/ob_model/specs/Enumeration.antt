-- One page of a directory's entries: which are left, how many fit, with which status, and where the
-- next page begins.
--
-- Sources: ZwQueryDirectoryObject (Windows Driver Kit) for the context, a restart, a single entry,
-- and MORE_ENTRIES and NO_MORE_ENTRIES. That a context is a stamp, and the size of an entry, are this
-- profile.
use Rattle.std.specs.Prelude.{ℕ, ◌+◌, ◌-◌, Bool, ◌&&◌, ◌==◌, nat_lt, nat_le, if◌then◌else◌, List, [], ◌∷◌, length, filter, map, codes}
use Rattle.std.specs.Option.{option_map_or}
use Rattle.ob_base.specs.declared.status.Status.{Status}
use Rattle.ob_base.specs.declared.status.Status.TheVariants.{Success, MoreEntries, NoMoreEntries, BufferTooSmall}
use Rattle.ob_model.specs.declared.state.Body.{Body}
use Rattle.ob_model.specs.declared.state.Body.TheVariants.{Directory, Link, Other}
use Rattle.ob_model.specs.declared.state.Row.{Row}
use Rattle.ob_model.specs.declared.entries.Listed.{Listed}
use Rattle.ob_model.specs.declared.reply.Answer.{Answer}
use Rattle.ob_model.specs.declared.reply.Given.TheVariants as given
use Rattle.ob_model.specs.Refusals.{gives}
use Rattle.ob_model.specs.State.{State, body_of}
use Rattle.ob_model.specs.Procedures.{Procedures}

-- an entry as it is shown: its stamp, its name and the name of its object's type
pub record Shown : Type 0 where
  pub stamp : ℕ
  pub name : List ℕ
  pub type_name : List ℕ

-- a page: its status, the entries, and the context that the next page begins after
pub record Page : Type 0 where
  pub status : Status
  pub entries : List Shown
  pub context : ℕ

-- the room that an entry takes: 4 bytes and both its names
abbrev pub room_of : Shown → ℕ
room_of e = 4 + length e.name + length e.type_name

-- of these entries as many as fit into the room, from the first one on
abbrev pub fitting : ℕ → List Shown → List Shown
fitting room [] = []
fitting room (e ∷ es) = if nat_le (room_of e) room then e ∷ fitting (room - room_of e) es else []

-- the stamp of the last of these entries, or the context where there is none
abbrev pub last_stamp : ℕ → List Shown → ℕ
last_stamp context [] = context
last_stamp context (e ∷ es) = last_stamp e.stamp es

-- the page of the entries that are left: none, the first doesn't fit, one alone, or all that fit
abbrev pub page_of : List Shown → ℕ → ℕ → Bool → Page
page_of [] context room single = record { status = NoMoreEntries; entries = []; context = context }
page_of (e ∷ es) context room single =
    if nat_lt room (room_of e) then record { status = BufferTooSmall; entries = []; context = context }
    else if single then record { status = Success; entries = e ∷ []; context = e.stamp }
    else let shown = fitting room (e ∷ es) in record {
      status = if nat_lt (length shown) (length (e ∷ es)) then MoreEntries else Success;
      entries = shown;
      context = last_stamp context shown;
    }

-- the greatest room that may be asked for, in bytes
abbrev pub largest_room : ℕ
largest_room = 1048576

-- the context that a page begins after: 0 where it restarts
abbrev pub context_used : (restart : Bool) → ℕ → ℕ
context_used restart context = if restart then 0 else context

-- an entry as an answer gives it: its stamp is left out
abbrev pub listed : Shown → Listed
listed e = record { name = e.name; type_name = e.type_name }

-- the answer that gives a page
abbrev pub page_answer : Page → Answer
page_answer page = gives page.status (given.Page (map listed page.entries) page.context)

module _ {K T F I : Type 0} (g : Procedures K T F I) where
  -- the name of an object's type
  abbrev pub body_type_name : Body F I → List ℕ
  body_type_name (Directory shadow) = codes "Directory"
  body_type_name (Link target) = codes "SymbolicLink"
  body_type_name (Other face inner) = g.type_name (g.kind_of face)

  -- a row as it is shown
  abbrev pub shown_row : State K T F I → Row → Shown
  shown_row s r = record { stamp = r.stamp; name = r.name; type_name = option_map_or body_type_name (body_of s r.object) [] }

  -- the entries of a directory with a stamp above the context, by rising stamps
  abbrev pub entries_left : State K T F I → ℕ → ℕ → List Shown
  entries_left s d context = map (shown_row s) (filter (λ r. (r.directory == d) && nat_lt context r.stamp) s.rows)

  -- one page of a directory
  abbrev pub enumerated : State K T F I → ℕ → ℕ → ℕ → Bool → Page
  enumerated s d context room single = page_of (entries_left s d context) context room single
