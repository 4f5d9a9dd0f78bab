-- A directory: what holds of its entries, what is found among them, and which rows of a state they
-- are.
--
-- Sources: Windows Internals, Object Manager: object directories; OBJECT_ATTRIBUTES structure
-- (Windows Driver Kit), OBJ_CASE_INSENSITIVE. Stamps, and which of several matches is found, are this
-- profile.
use Rattle.std.specs.Prelude.{◌≡◌, ◌≢◌, ◌↔◌, ℕ, ◌<◌, Bool, false, ◌==◌, nat_le, if◌then◌else◌, not, List, [], ◌∷◌, ◌++◌, Option, None, Some, All, filter, map}
use Rattle.std.specs.List.{AllPairs}
use Rattle.std.specs.Option.{option_map}
use Rattle.ob_model.specs.declared.state.Row.{Row}
use Rattle.ob_model.specs.Names.{same_name}
use Rattle.ob_model.specs.State.{State}
use Rattle.ob_model.specs.Paths.{found}
use Rattle.ob_dirs.specs.declared.entry.DirEntry.{DirEntry}

-- the entry may come before the other: its stamp is less, and it is spelled otherwise
abbrev pub ComesBefore : DirEntry → DirEntry → Type 0
ComesBefore a b = (a.stamp < b.stamp) × (a.name ≢ b.name)

-- the entries of a directory: each may come before all that follow it, so the stamps rise strictly
-- and no spelling is there twice
abbrev pub IsDir : List DirEntry → Type 0
IsDir entries = AllPairs ComesBefore entries

-- the entry's name is equal to the component
abbrev pub is_named : List ℕ → Bool → DirEntry → Bool
is_named component fold e = same_name fold e.name component

-- the entry of least stamp among these, and the first of those where several have it
abbrev pub earlier_entry : DirEntry → Option DirEntry → DirEntry
earlier_entry e None = e
earlier_entry e (Some other) = if nat_le e.stamp other.stamp then e else other

abbrev pub earliest_entry : List DirEntry → Option DirEntry
earliest_entry [] = None
earliest_entry (e ∷ es) = Some (earlier_entry e (earliest_entry es))

-- what is found under a component: of the entries whose names are equal, the one inserted first
abbrev pub entry_found : List DirEntry → List ℕ → Bool → Option DirEntry
entry_found entries component fold = earliest_entry (filter (is_named component fold) entries)

-- the row that an entry of a directory is
abbrev pub row_of : ℕ → DirEntry → Row
row_of directory e = record { stamp = e.stamp; directory = directory; name = e.name; object = e.object }

-- of these rows, those that are in the directory are these entries, in their order
abbrev pub AreEntries : List Row → ℕ → List DirEntry → Type 0
AreEntries rows directory entries = filter (λ r. r.directory == directory) rows ≡ map (row_of directory) entries

-- where the rows of a state that are in a directory are these entries, the state finds the row of
-- the entry that is found
abbrev pub DirFindsWhatTheStateFinds : (K T F I : Type 0) → Type 0
DirFindsWhatTheStateFinds K T F I =
    (s : State K T F I) (directory : ℕ) (entries : List DirEntry) → AreEntries s.rows directory entries
    → (component : List ℕ) (fold : Bool)
    → found s directory component fold ≡ option_map (row_of directory) (entry_found entries component fold)

-- a search without fold finds nothing exactly where no entry is spelled so
abbrev pub NotFoundIsFree : Type 0
NotFoundIsFree =
    (entries : List DirEntry) (component : List ℕ)
    → (entry_found entries component false ≡ None) ↔ All (λ e. e.name ≢ component) entries

-- a directory with no row has no entry
abbrev pub NoRowIsNoEntry : Type 0
NoRowIsNoEntry = (rows : List Row) (directory : ℕ) → All (λ r. r.directory ≢ directory) rows → AreEntries rows directory []

-- the row of a further entry, put after all rows, puts the entry after the others
abbrev pub NewRowIsLastEntry : Type 0
NewRowIsLastEntry =
    (rows : List Row) (directory : ℕ) (entries : List DirEntry) (e : DirEntry) → AreEntries rows directory entries
    → AreEntries (rows ++ row_of directory e ∷ []) directory (entries ++ e ∷ [])

-- a further row of another directory changes no entry
abbrev pub RowElsewhereIsNoEntry : Type 0
RowElsewhereIsNoEntry =
    (rows : List Row) (directory : ℕ) (entries : List DirEntry) (r : Row) → r.directory ≢ directory → AreEntries rows directory entries
    → AreEntries (rows ++ r ∷ []) directory entries

-- with the rows of a stamp go the entries of that stamp, and no others
abbrev pub EntryGoesWithItsRow : Type 0
EntryGoesWithItsRow =
    (rows : List Row) (directory : ℕ) (entries : List DirEntry) (stamp : ℕ) → AreEntries rows directory entries
    → AreEntries (filter (λ r. not (r.stamp == stamp)) rows) directory (filter (λ e. not (e.stamp == stamp)) entries)
