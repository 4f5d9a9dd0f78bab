-- Pages of a directory: the model's page of its entries after a context, and what a `DirPage` gives of it.
--
-- Sources: ZwQueryDirectoryObject (Windows Driver Kit) for the statuses and the context; that a context is a
-- stamp, and the size of an entry, are this profile.
use Rattle.std.specs.Prelude.{◌≡◌, ℕ, ◌+◌, ◌-◌, Bool, true, false, ◌&&◌, not, ◌==◌, nat_le, nat_lt, if◌then◌else◌, List, [], ◌∷◌, length, take, map, filter, Option, Some, None, All}
use Rattle.std.specs.List.{FoldsTo}
use Rattle.ob_base.specs.declared.status.Status.{Status}
use Rattle.ob_base.specs.declared.status.Status.TheVariants.{Success, MoreEntries, NoMoreEntries, BufferTooSmall}
use Rattle.ob_model.specs.Enumeration.{Shown, Page, room_of, page_of}
use Rattle.ob_dirs.specs.declared.entry.DirEntry.{DirEntry}
use Rattle.ob_dirs.specs.declared.page.DirPage.{DirPage}
use Rattle.ob_dirs.specs.declared.page.Fit.{Fit}

-- what is answered for objects, one after another from here on, are the lengths of these names of their types
abbrev pub TellsLengths : {F : Type 0} → (F → ℕ → ℕ → F → Type 0) → F → (ℕ → List ℕ) → Type 0
TellsLengths {F} Tells teller type_name =
    (told : List (ℕ × ℕ)) (last : F) → FoldsTo (λ f x g. Tells f x.0 x.1 g) teller told last → All (λ x. x.1 ≡ length (type_name x.0)) told

-- the entries of a directory after a context
abbrev pub entries_behind : List DirEntry → ℕ → List DirEntry
entries_behind entries context = filter (λ e. nat_lt context e.stamp) entries

-- an entry as it is shown, where the objects' types have these names
abbrev pub shown_entry : (ℕ → List ℕ) → DirEntry → Shown
shown_entry type_name e = record { stamp = e.stamp; name = e.name; type_name = type_name e.object }

-- the page of a directory, where the objects' types have these names
abbrev pub page_told : (ℕ → List ℕ) → List DirEntry → ℕ → ℕ → Bool → Page
page_told type_name entries context room single = page_of (map (shown_entry type_name) (entries_behind entries context)) context room single

-- a page agrees with the model's: its status, its context, and of the entries that are left as many as are shown,
-- from the first one on
pub record IsPage (told : Page) (left : List DirEntry) (page : DirPage) : Type 0 where
  pub status : page.status ≡ told.status
  pub entries : page.entries ≡ take (length told.entries) left
  pub context : page.context ≡ told.context

-- ---- on the way to a page

-- the room that is left after what an entry takes; none where it doesn't fit
abbrev pub room_behind : ℕ → ℕ → Option ℕ
room_behind taken room = if nat_le taken room then Some (room - taken) else None

-- of these entries as many as fit into the room, from the first one on, or the first of them alone: how many are shown
-- with the count before them, whether one that doesn't fit follows them, and the stamp of the last
abbrev pub fit_of : List Shown → ℕ → ℕ → ℕ → Bool → Fit
fit_of [] count context room single = record { count = count; more = false; context = context }
fit_of (e ∷ es) count context room single =
    if nat_le (room_of e) room then
    (if single then record { count = count + 1; more = false; context = e.stamp }
    else fit_of es (count + 1) e.stamp (room - room_of e) single)
    else record { count = count; more = true; context = context }

-- the status of a page that shows so many entries
abbrev pub page_status : Fit → Bool → Status
page_status fit single =
    if fit.count == 0 then (if fit.more then BufferTooSmall else NoMoreEntries)
    else if not single && fit.more then MoreEntries
    else Success
