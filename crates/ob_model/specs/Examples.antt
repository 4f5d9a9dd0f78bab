-- Worked examples: what the definitions say of small namespaces, each the opening state with some
-- objects and rows more. The law functions in src/examples.rt prove them.
--
-- Source: this profile.
use Rattle.std.specs.Prelude.{◌≡◌, ℕ, zero, suc, ◌+◌, ◌==◌, if◌then◌else◌, Bool, true, false, List, [], ◌∷◌, ◌++◌, length, drop, None, Some, codes}
use Rattle.ob_base.specs.declared.status.Status.{Status}
use Rattle.ob_base.specs.declared.status.Status.TheVariants.{Success, TypeRefused, InvalidHandle, InvalidParameter, MoreEntries, NoMoreEntries, BufferTooSmall, ObjectNameInvalid, ObjectPathNotFound, ObjectNameNotFound, ObjectTypeMismatch, ObjectPathSyntaxBad, ReparseLimit}
use Rattle.ob_model.specs.declared.command.Place.{Place}
use Rattle.ob_model.specs.declared.command.Place.TheVariants.{Unnamed, At as place_at}
use Rattle.ob_model.specs.declared.command.Command.TheVariants.{CreateObject, CreateShadowed, Close}
use Rattle.ob_model.specs.declared.reply.Answer.{Answer}
use Rattle.ob_model.specs.declared.reply.Event.{Event}
use Rattle.ob_model.specs.declared.reply.Event.TheVariants.{Start}
use Rattle.ob_model.specs.declared.reply.Given.TheVariants.{Handle}
use Rattle.ob_model.specs.declared.state.Body.TheVariants.{Directory, Link, Other}
use Rattle.ob_model.specs.declared.state.Object.{Object}
use Rattle.ob_model.specs.declared.state.Row.{Row}
use Rattle.ob_model.specs.declared.state.Held.{Held}
use Rattle.ob_model.specs.Names.{separator, same_name, IsSplit, substituted}
use Rattle.ob_model.specs.State.{State, object_of, global_id}
use Rattle.ob_model.specs.Opening.{opening, standing, root_row}
use Rattle.ob_model.specs.Paths.{seen, origin_of, InDirectory, ViewOf}
use Rattle.ob_model.specs.declared.terms.Reason.TheVariants.{Created}
use Rattle.ob_model.specs.Procedures.{Procedures, ParseAnswer, Itself, Front, Reparse, Refused as ParseRefused, EndsItself, EndsMade, EndsReparse, EndsRefused, ParseEnds}
use Rattle.ob_model.specs.declared.terms.Mode.{Mode}
use Rattle.ob_model.specs.Looks.{Look, At, Vacant, Parse, Refused, most_reparses, LooksUp}
use Rattle.ob_model.specs.Settle.{settle, has_name}
use Rattle.ob_model.specs.Closing.{closed_handle}
use Rattle.ob_model.specs.Permanence.{turned}
use Rattle.ob_model.specs.Maps.{map_of, with_map}
use Rattle.ob_model.specs.Naming.{IsWayUp, path_text}
use Rattle.ob_model.specs.Enumeration.{Shown, enumerated}
use Rattle.ob_model.specs.Refusals.{gives, answers}
use Rattle.ob_model.specs.Creates.{created, dropped}
use Rattle.ob_model.specs.Processes.{ended}
use Rattle.ob_model.specs.Step.{Step}
use Rattle.ob_model.specs.Calls.{Call, Opened, Closed, Deleted, Passed, Passes, calls_of_run, closes_at_end}

-- ---- the set of types, the states and the modes

-- a set of types whose kinds, values, faces and inner values are numbers. A face is its kind, kind
-- 1 parses, and its parse uses all of a rest
abbrev pub numbers : Procedures ℕ ℕ ℕ ℕ
numbers = record {
  type_name = λ kind. codes "Number";
  kind_of = λ face. face;
  same_kind = λ a b. a == b;
  parses = λ kind. kind == 1;
  same_face = λ a b. a == b;
  refuses_to_make = λ kind args. None;
  made = λ kind args. (kind, 0);
  parsed = λ face rest. Front (length rest) 0 0;
  refuses_to_open = λ set inner reason. None;
  opened = λ set inner reason. (set, inner);
  closed = λ set inner process_left left. (set, inner);
  deleted = λ set inner. set;
}

-- the states of that set, and their objects
abbrev pub Numbers : Type 0
Numbers = State ℕ ℕ ℕ ℕ

abbrev pub Thing : Type 0
Thing = Object ℕ ℕ

-- the opening state with these objects and these rows more, numbered on from its own
abbrev pub opening_with : List Thing → List Row → Numbers
opening_with objects rows =
    let start = opening {K = ℕ} {T = ℕ} {F = ℕ} {I = ℕ} 0 in
    record start {
      objects = start.objects ++ objects;
      rows = start.rows ++ rows;
      next_id = start.next_id + length objects;
      next_stamp = start.next_stamp + length rows;
    }

-- a link with this target
abbrev pub link_to : ℕ → List ℕ → Thing
link_to o target = standing o (Link target)

-- a row of another directory than the root
abbrev pub row_in : ℕ → ℕ → List ℕ → ℕ → Row
row_in directory stamp name o = record { stamp = stamp; directory = directory; name = name; object = o }

-- a name is opened as it is written or with case folded, its last component is opened as a link, or
-- an object of that name is created
abbrev pub opens : Mode
opens = record { create = false; fold = false; follow = true }

abbrev pub opens_folded : Mode
opens_folded = record { create = false; fold = true; follow = true }

abbrev pub opens_link : Mode
opens_link = record { create = false; fold = false; follow = false }

abbrev pub creates : Mode
creates = record { create = true; fold = false; follow = true }

-- process 1 looks an absolute name up with this end
abbrev pub EndsAt : Numbers → Mode → List ℕ → Look → Type 0
EndsAt s mode name look = LooksUp numbers s 1 mode most_reparses None name look

-- ---- names

-- `Foo` and `FOO` are equal without case and differ with it; `[` is not `{` in either way
abbrev pub NamesWithAndWithoutCase : Type 0
NamesWithAndWithoutCase =
    (same_name true (codes "Foo") (codes "FOO") ≡ true) × (same_name false (codes "Foo") (codes "FOO") ≡ false)
    × (same_name true (codes "[") (codes "{") ≡ false) × (same_name false (codes "[") (codes "{") ≡ false)

-- `\Device\Disk\` is split after each of its components, and its last rest is `\`
abbrev pub TextsInComponents : Type 0
TextsInComponents =
    IsSplit (codes "\\Device\\Disk\\") [] (codes "\\Device\\Disk\\")
    × IsSplit (codes "\\Device\\Disk\\") (codes "Device" ∷ []) (codes "\\Disk\\")
    × IsSplit (codes "\\Device\\Disk\\") (codes "Device" ∷ codes "Disk" ∷ []) (codes "\\")

-- of two separators that meet one is dropped
abbrev pub SeparatorsThatMeet : Type 0
SeparatorsThatMeet =
    (substituted (codes "\\A\\") (codes "\\B") ≡ codes "\\A\\B") × (substituted (codes "\\A") (codes "\\B") ≡ codes "\\A\\B")
    × (substituted (codes "\\A\\") [] ≡ codes "\\A\\")

-- ---- lookups in directories

-- object 7 is `\Device\Disk`, an object of the set that doesn't parse
abbrev pub with_disk : Numbers
with_disk = opening_with (standing 7 (Other 0 0) ∷ []) (row_in 4 6 (codes "Disk") 7 ∷ [])

-- the root, a directory and an object in it are found, by a name from the root or relative to a
-- directory
abbrev pub NamesThatAreFound : Type 0
NamesThatAreFound =
    EndsAt with_disk opens (codes "\\") (At 1) × EndsAt with_disk opens (codes "\\Device") (At 4)
    × EndsAt with_disk opens (codes "\\Device\\Disk") (At 7) × LooksUp numbers with_disk 1 opens most_reparses (Some 4) (codes "Disk") (At 7)

-- a component that names nothing is refused by whether it is the last; the last one is a place for
-- a create. An object that is no directory has nothing after it
abbrev pub NamesThatAreMissing : Type 0
NamesThatAreMissing =
    EndsAt with_disk opens (codes "\\Missing\\Disk") (Refused ObjectPathNotFound)
    × EndsAt with_disk opens (codes "\\Device\\Missing") (Refused ObjectNameNotFound)
    × EndsAt with_disk creates (codes "\\Device\\Missing") (Vacant 4 (codes "Missing"))
    × EndsAt with_disk opens (codes "\\Device\\Disk\\Part") (Refused ObjectTypeMismatch)

-- an empty component is refused, at the end and in the middle, and so is a name with no separator
-- in front
abbrev pub NamesThatAreInvalid : Type 0
NamesThatAreInvalid =
    EndsAt with_disk opens (codes "\\Device\\") (Refused ObjectNameInvalid)
    × EndsAt with_disk opens (codes "\\Device\\\\Disk") (Refused ObjectNameInvalid)
    × EndsAt with_disk opens (codes "Device") (Refused ObjectPathSyntaxBad)

-- objects 7 and 8 are `\Foo` and `\FOO`, and `\FOO` was inserted first
abbrev pub with_two_spellings : Numbers
with_two_spellings = opening_with (standing 7 (Directory None) ∷ standing 8 (Directory None) ∷ []) (root_row 6 (codes "FOO") 8 ∷ root_row 7 (codes "Foo") 7 ∷ [])

-- of two names that are equal without case the one inserted first is found; with case each is
abbrev pub FirstInsertedIsFound : Type 0
FirstInsertedIsFound =
    EndsAt with_two_spellings opens_folded (codes "\\foo") (At 8) × EndsAt with_two_spellings opens_folded (codes "\\Foo") (At 8)
    × EndsAt with_two_spellings opens (codes "\\Foo") (At 7) × EndsAt with_two_spellings opens (codes "\\foo") (Refused ObjectNameNotFound)

-- object 7 is `\Volume`, an object of the set that parses
abbrev pub with_volume : Numbers
with_volume = opening_with (standing 7 (Other 1 0) ∷ []) (root_row 6 (codes "Volume") 7 ∷ [])

-- an open hands what follows a parsing object to its parse, separators and all; a create never parses
abbrev pub RestIsParsed : Type 0
RestIsParsed =
    EndsAt with_volume opens (codes "\\Volume\\a\\\\b") (Parse 7 (codes "\\a\\\\b") most_reparses) × EndsAt with_volume opens (codes "\\Volume") (Parse 7 [] most_reparses)
    × EndsAt with_volume creates (codes "\\Volume") (At 7) × EndsAt with_volume creates (codes "\\Volume\\a") (Refused ObjectTypeMismatch)

-- ---- lookups through links

-- beside `\Device\Disk`, `\Link` leads to `\Device`, `\Self` to itself, and the target of `\Bad` is
-- no absolute name
abbrev pub with_links : Numbers
with_links =
    opening_with (standing 7 (Other 0 0) ∷ link_to 8 (codes "\\Device") ∷ link_to 9 (codes "\\Self") ∷ link_to 10 (codes "Device") ∷ [])
    (row_in 4 6 (codes "Disk") 7 ∷ root_row 7 (codes "Link") 8 ∷ root_row 8 (codes "Self") 9 ∷ root_row 9 (codes "Bad") 10 ∷ [])

-- a link is followed, and the rest after it is kept; `\DosDevices` leads to `\??`
abbrev pub LinkIsFollowed : Type 0
LinkIsFollowed =
    EndsAt with_links opens (codes "\\Link\\Disk") (At 7) × EndsAt with_links opens (codes "\\Link") (At 4)
    × EndsAt with_links creates (codes "\\Link\\New") (Vacant 4 (codes "New")) × EndsAt with_links opens (codes "\\DosDevices") (At global_id)

-- a link is what is named where the last component isn't followed, and in a create, but not where
-- more of the name is left
abbrev pub LinkIsOpened : Type 0
LinkIsOpened =
    EndsAt with_links opens_link (codes "\\Link") (At 8) × EndsAt with_links creates (codes "\\Link") (At 8)
    × EndsAt with_links opens_link (codes "\\Link\\Disk") (At 7)

-- a link that leads to itself ends at the limit
abbrev pub LinkToItself : Type 0
LinkToItself = EndsAt with_links opens (codes "\\Self") (Refused ReparseLimit) × EndsAt with_links opens_link (codes "\\Self") (At 9)

-- a target that is no absolute name is refused once it is followed
abbrev pub TargetIsNoAbsoluteName : Type 0
TargetIsNoAbsoluteName = EndsAt with_links opens (codes "\\Bad") (Refused ObjectPathSyntaxBad) × EndsAt with_links opens_link (codes "\\Bad") (At 10)

-- `\K` leads to `\A\`, and object 8 is `\A\B`
abbrev pub with_separator_at_end : Numbers
with_separator_at_end =
    opening_with (standing 7 (Directory None) ∷ standing 8 (Directory None) ∷ link_to 9 (codes "\\A\\") ∷ [])
    (root_row 6 (codes "A") 7 ∷ row_in 7 7 (codes "B") 8 ∷ root_row 8 (codes "K") 9 ∷ [])

-- a target that ends in a separator: a rest takes that one for its own, and alone the target has an
-- empty last component
abbrev pub TargetEndsInSeparator : Type 0
TargetEndsInSeparator =
    EndsAt with_separator_at_end opens (codes "\\K\\B") (At 8) × EndsAt with_separator_at_end opens (codes "\\K") (Refused ObjectNameInvalid)

-- the name of link k of a chain, one byte, and the links 0 to k - 1 with their rows: link 0 leads to
-- `\Device`, and each other one to the one before it
abbrev pub chain_name : ℕ → List ℕ
chain_name k = separator ∷ (48 + k) ∷ []

abbrev pub chain_target : ℕ → List ℕ
chain_target zero = codes "\\Device"
chain_target (suc k) = chain_name k

abbrev pub chain_links : ℕ → List Thing
chain_links zero = []
chain_links (suc k) = chain_links k ++ link_to (7 + k) (chain_target k) ∷ []

abbrev pub chain_rows : ℕ → List Row
chain_rows zero = []
chain_rows (suc k) = chain_rows k ++ root_row (6 + k) (drop 1 (chain_name k)) (7 + k) ∷ []

abbrev pub with_chain : ℕ → Numbers
with_chain n = opening_with (chain_links n) (chain_rows n)

-- 32 links are followed to the directory at their end, and one more is one too many
abbrev pub ChainOfLinks : Type 0
ChainOfLinks = EndsAt (with_chain 33) opens (chain_name 31) (At 4) × EndsAt (with_chain 33) opens (chain_name 32) (Refused ReparseLimit)

-- ---- the DOS device names

-- process 1 has the local directory 7, process 2 has none. `\??\C:` is object 8 locally and object 9
-- globally, and `\??\D:` is object 10 globally alone
abbrev pub with_local : Numbers
with_local =
    record (opening_with (standing 7 (Directory None) ∷ standing 8 (Other 0 0) ∷ standing 9 (Other 0 0) ∷ standing 10 (Other 0 0) ∷ [])
    (row_in 7 6 (codes "C:") 8 ∷ row_in global_id 7 (codes "C:") 9 ∷ row_in global_id 8 (codes "D:") 10 ∷ [])) {
      processes = record { number = 1; map = Some 7 } ∷ record { number = 2; map = None } ∷ [];
      next_process = 3;
    }

-- an open after `\??` finds the local directory's entry first, and else the global one
abbrev pub LocalComesFirst : Type 0
LocalComesFirst =
    EndsAt with_local opens (codes "\\??\\C:") (At 8) × EndsAt with_local opens (codes "\\??\\D:") (At 10)
    × EndsAt with_local opens (codes "\\GLOBAL??\\C:") (At 9) × LooksUp numbers with_local 2 opens most_reparses None (codes "\\??\\C:") (At 9)
    × EndsAt with_local opens (codes "\\DosDevices\\C:") (At 8)

-- a create directly after `\??` looks in the local directory alone, so it doesn't meet the global entry
abbrev pub CreateIsLocal : Type 0
CreateIsLocal =
    EndsAt with_local creates (codes "\\??\\D:") (Vacant 7 (codes "D:")) × EndsAt with_local creates (codes "\\??\\C:") (At 8)
    × (origin_of with_local 1 true (codes "\\??\\D:") ≡ Some (InDirectory 7, codes "\\D:"))
    × (origin_of with_local 1 true (codes "\\??\\D:\\x") ≡ Some (ViewOf 1, codes "\\D:\\x"))

-- `\??` itself is the local directory, and `\GLOBAL??` for a process that has none
abbrev pub ViewIsLocal : Type 0
ViewIsLocal =
    EndsAt with_local opens (codes "\\??") (At 7) × LooksUp numbers with_local 2 opens most_reparses None (codes "\\??") (At global_id)
    × EndsAt with_local opens (codes "\\DosDevices") (At 7) × EndsAt with_local creates (codes "\\??") (At 7)

-- ---- what stays

-- object 7 is `\Temporary`, a directory that is not permanent and has no handle; object 8 is
-- `\Temporary\Held`, not permanent either, with a handle of process 1
abbrev pub temporary : ℕ → Thing
temporary o = record { id = o; body = Directory None; permanent = false; exclusive = false }

abbrev pub with_held : Numbers
with_held =
    record (opening_with (temporary 7 ∷ temporary 8 ∷ []) (root_row 6 (codes "Temporary") 7 ∷ row_in 7 7 (codes "Held") 8 ∷ [])) {
      handles = record { process = 1; value = 4; object = 8; inherit = false; order = 1 } ∷ [];
      next_order = 2;
    }

-- a temporary directory that holds the name of a held object loses its own name and stays; the held
-- object keeps its name
abbrev pub HoldsWithoutName : Type 0
HoldsWithoutName =
    (has_name (settle numbers with_held) 7 ≡ false) × (object_of (settle numbers with_held) 7 ≡ Some (temporary 7))
    × (has_name (settle numbers with_held) 8 ≡ true) × (object_of (settle numbers with_held) 8 ≡ Some (temporary 8))

-- without the handle both go
abbrev pub TemporaryGoes : Type 0
TemporaryGoes =
    let left = settle numbers (record with_held { handles = [] }) in
    (object_of left 8 ≡ None) × (has_name left 8 ≡ false) × (has_name left 7 ≡ false)

-- ---- pages of a directory

-- process 1's handle of this value and order
abbrev pub handle_to : ℕ → ℕ → ℕ → Held
handle_to o value order = record { process = 1; value = value; object = o; inherit = false; order = order }

-- `\Device` holds the directories `A` and `B` and the object `C`, inserted in this order. `B` is not
-- permanent, and process 1 has the one handle to it
abbrev pub with_three_entries : Numbers
with_three_entries =
    record (opening_with (standing 7 (Directory None) ∷ temporary 8 ∷ standing 9 (Other 0 0) ∷ [])
    (row_in 4 6 (codes "A") 7 ∷ row_in 4 7 (codes "B") 8 ∷ row_in 4 8 (codes "C") 9 ∷ [])) {
      handles = handle_to 8 4 1 ∷ [];
      next_order = 2;
    }

-- the three entries as they are shown: they take 14, 14 and 11 bytes of room
abbrev pub shown_a : Shown
shown_a = record { stamp = 6; name = codes "A"; type_name = codes "Directory" }

abbrev pub shown_b : Shown
shown_b = record { stamp = 7; name = codes "B"; type_name = codes "Directory" }

abbrev pub shown_c : Shown
shown_c = record { stamp = 8; name = codes "C"; type_name = codes "Number" }

-- the page of `\Device` after a context is this one
abbrev pub HasPage : Numbers → (context room : ℕ) → (single : Bool) → Status → List Shown → ℕ → Type 0
HasPage s context room single status entries next =
    enumerated numbers s 4 context room single ≡ record { status = status; entries = entries; context = next }

-- all entries fit; one alone is asked for; none is left; there is no room for the first
abbrev pub PagesOfADirectory : Type 0
PagesOfADirectory =
    HasPage with_three_entries 0 39 false Success (shown_a ∷ shown_b ∷ shown_c ∷ []) 8
    × HasPage with_three_entries 0 39 true Success (shown_a ∷ []) 6
    × HasPage with_three_entries 8 39 false NoMoreEntries [] 8
    × HasPage with_three_entries 0 13 false BufferTooSmall [] 0
    × HasPage with_three_entries 0 13 true BufferTooSmall [] 0

-- one byte too few for all: more entries are left, and the next page begins with the first of them
abbrev pub MoreEntriesAreLeft : Type 0
MoreEntriesAreLeft =
    HasPage with_three_entries 0 38 false MoreEntries (shown_a ∷ shown_b ∷ []) 7 × HasPage with_three_entries 7 38 false Success (shown_c ∷ []) 8
    × HasPage with_three_entries 0 14 false MoreEntries (shown_a ∷ []) 6 × HasPage with_three_entries 6 14 false MoreEntries (shown_b ∷ []) 7

-- the row that a page ended with goes, since its object's last handle is closed: the next page begins
-- after it all the same, and leaves nothing out
abbrev pub PageBehindARowThatWent : Type 0
PageBehindARowThatWent =
    let left = settle numbers (closed_handle numbers with_three_entries (handle_to 8 4 1)) in
    HasPage with_three_entries 0 28 false MoreEntries (shown_a ∷ shown_b ∷ []) 7 × HasPage left 7 28 false Success (shown_c ∷ []) 8
    × HasPage left 0 28 false Success (shown_a ∷ shown_c ∷ []) 8

-- ---- temporary and permanent objects

-- object 7 is `\Device\Disk`, which is permanent, object 8 is `\Device\Tape`, which isn't, and object 9 has
-- no name; process 1 has a handle to each
abbrev pub with_three_held : Numbers
with_three_held =
    record (opening_with (standing 7 (Directory None) ∷ temporary 8 ∷ temporary 9 ∷ []) (row_in 4 6 (codes "Disk") 7 ∷ row_in 4 7 (codes "Tape") 8 ∷ [])) {
      handles = handle_to 7 4 1 ∷ handle_to 8 8 2 ∷ handle_to 9 12 3 ∷ [];
      next_order = 4;
    }

-- an object that is made temporary keeps its name while it has a handle, and goes with its last one
abbrev pub MadeTemporaryGoes : Type 0
MadeTemporaryGoes =
    let made = settle numbers (turned with_three_held 7 false) in
    let left = settle numbers (closed_handle numbers made (handle_to 7 4 1)) in
    (object_of made 7 ≡ Some (temporary 7)) × (has_name made 7 ≡ true) × (object_of left 7 ≡ None) × (has_name left 7 ≡ false)

-- one that is made permanent stays with its name; without a name none is made permanent, nor is the root again
abbrev pub MadePermanentStays : Type 0
MadePermanentStays =
    let made = settle numbers (turned with_three_held 8 true) in
    let left = settle numbers (closed_handle numbers made (handle_to 8 8 2)) in
    (object_of left 8 ≡ Some (standing 8 (Directory None))) × (has_name left 8 ≡ true) × (turned with_three_held 9 true ≡ with_three_held)
    × (turned (turned with_three_held 1 false) 1 true ≡ turned with_three_held 1 false)

-- ---- device maps

-- the directory of a map stays without a name and without a handle, and goes when the process sets another map
abbrev pub MapHoldsItsDirectory : Type 0
MapHoldsItsDirectory =
    let mapped = settle numbers (with_map with_three_held 1 9) in
    let left = settle numbers (closed_handle numbers mapped (handle_to 9 12 3)) in
    let other = settle numbers (with_map left 1 8) in
    (map_of mapped 1 ≡ Some 9) × (object_of left 9 ≡ Some (temporary 9)) × (map_of other 1 ≡ Some 8) × (object_of other 9 ≡ None)

-- ---- shadows

-- a directory with a shadow
abbrev pub shadowed_by : ℕ → ℕ → Thing
shadowed_by o shadow = standing o (Directory (Some shadow))

-- `\Shared` is object 7, and the shadow of `\Own`, object 8. Both have an entry `A`, objects 9 and 10, and that of
-- the shadow was inserted first; the shadow alone has the directory `B`, object 11, in which `C` is object 12.
-- The root is the shadow of `\All`, object 13
abbrev pub with_shadows : Numbers
with_shadows =
    opening_with (
    standing 7 (Directory None) ∷ shadowed_by 8 7 ∷ standing 9 (Other 0 0) ∷ standing 10 (Other 0 0) ∷ standing 11 (Directory None) ∷ standing 12 (Other 0 0)
    ∷ shadowed_by 13 1 ∷ [])
    (root_row 6 (codes "Shared") 7 ∷ root_row 7 (codes "Own") 8 ∷ row_in 7 8 (codes "A") 9 ∷ row_in 8 9 (codes "A") 10 ∷ row_in 7 10 (codes "B") 11
    ∷ row_in 11 11 (codes "C") 12 ∷ root_row 12 (codes "All") 13 ∷ [])

-- a component that a directory has no entry for is looked up in its shadow, at the end of a name, in its middle and
-- relative to the directory
abbrev pub ShadowIsSeen : Type 0
ShadowIsSeen =
    EndsAt with_shadows opens (codes "\\Own\\B") (At 11) × EndsAt with_shadows opens (codes "\\Own\\B\\C") (At 12)
    × LooksUp numbers with_shadows 1 opens most_reparses (Some 8) (codes "B") (At 11)
    × EndsAt with_shadows opens (codes "\\Own\\D") (Refused ObjectNameNotFound) × EndsAt with_shadows opens (codes "\\Own\\D\\C") (Refused ObjectPathNotFound)

-- the directory's own entry comes first, also without case; the shadow's entry is found by the shadow's path; and a
-- listing shows own entries alone
abbrev pub OwnComesFirst : Type 0
OwnComesFirst =
    EndsAt with_shadows opens (codes "\\Own\\A") (At 10) × EndsAt with_shadows opens_folded (codes "\\Own\\a") (At 10)
    × EndsAt with_shadows opens (codes "\\Shared\\A") (At 9)
    × (enumerated numbers with_shadows 8 0 39 false ≡ record { status = Success; entries = record { stamp = 9; name = codes "A"; type_name = codes "Number" } ∷ []; context = 9 })

-- the last component of a create names an own entry or is vacant, whatever the shadow has; those before it are seen
abbrev pub CreateIsOwn : Type 0
CreateIsOwn =
    EndsAt with_shadows creates (codes "\\Own\\B") (Vacant 8 (codes "B")) × EndsAt with_shadows creates (codes "\\Own\\A") (At 10)
    × EndsAt with_shadows creates (codes "\\Own\\B\\C") (At 12) × EndsAt with_shadows creates (codes "\\Own\\B\\D") (Vacant 11 (codes "D"))
    × LooksUp numbers with_shadows 1 creates most_reparses (Some 8) (codes "B") (Vacant 8 (codes "B"))

-- the root is a shadow as any other directory is
abbrev pub RootIsShadow : Type 0
RootIsShadow =
    EndsAt with_shadows opens (codes "\\All\\Device") (At 4) × EndsAt with_shadows opens (codes "\\All\\All\\Own\\B") (At 11)
    × EndsAt with_shadows creates (codes "\\All\\Device") (Vacant 13 (codes "Device"))

-- beside the directory its shadow alone is searched, and no shadow of the shadow, which no sound state has
abbrev pub with_shadow_of_shadow : Numbers
with_shadow_of_shadow = opening_with (standing 7 (Directory None) ∷ shadowed_by 8 7 ∷ shadowed_by 9 8 ∷ standing 10 (Other 0 0) ∷ []) (row_in 7 6 (codes "A") 10 ∷ [])

abbrev pub ShadowIsSearchedAlone : Type 0
ShadowIsSearchedAlone = (seen with_shadow_of_shadow 8 (codes "A") false ≡ Some (row_in 7 6 (codes "A") 10)) × (seen with_shadow_of_shadow 9 (codes "A") false ≡ None)

-- process 1 has the local directory 8, whose shadow is 7. `C:` is object 9 in the shadow and object 10 globally,
-- `D:` is object 11 globally alone, and `E:` object 12 in the local directory
abbrev pub with_shadowed_map : Numbers
with_shadowed_map =
    record (opening_with (
    standing 7 (Directory None) ∷ shadowed_by 8 7 ∷ standing 9 (Other 0 0) ∷ standing 10 (Other 0 0) ∷ standing 11 (Other 0 0) ∷ standing 12 (Other 0 0) ∷ [])
    (row_in 7 6 (codes "C:") 9 ∷ row_in global_id 7 (codes "C:") 10 ∷ row_in global_id 8 (codes "D:") 11 ∷ row_in 8 9 (codes "E:") 12 ∷ [])) {
      processes = record { number = 1; map = Some 8 } ∷ [];
    }

-- an open after `\??` sees the shadow of the local directory before the global one; a create looks in the local
-- directory alone
abbrev pub MapHasShadow : Type 0
MapHasShadow =
    EndsAt with_shadowed_map opens (codes "\\??\\C:") (At 9) × EndsAt with_shadowed_map opens (codes "\\??\\D:") (At 11)
    × EndsAt with_shadowed_map opens (codes "\\??\\E:") (At 12) × EndsAt with_shadowed_map creates (codes "\\??\\C:") (Vacant 8 (codes "C:"))
    × EndsAt with_shadowed_map creates (codes "\\??\\E:") (At 12)

-- objects 7 and 8 are `\Shared` and `\Own`, neither permanent; the first is the shadow of the second, to which
-- process 1 has a handle
abbrev pub with_held_shadow : Numbers
with_held_shadow =
    record (opening_with (temporary 7 ∷ record (temporary 8) { body = Directory (Some 7) } ∷ []) (root_row 6 (codes "Shared") 7 ∷ root_row 7 (codes "Own") 8 ∷ [])) {
      handles = handle_to 8 4 1 ∷ [];
      next_order = 2;
    }

-- a shadow remains as long as its directory, without a name or a handle, and is deleted with it
abbrev pub ShadowStaysAndGoes : Type 0
ShadowStaysAndGoes =
    let held = settle numbers with_held_shadow in
    let left = settle numbers (closed_handle numbers held (handle_to 8 4 1)) in
    (has_name held 7 ≡ false) × (object_of held 7 ≡ Some (temporary 7)) × (has_name held 8 ≡ true)
    × (object_of left 7 ≡ None) × (object_of left 8 ≡ None)

-- process 1 has handles to `\Shared`, to `\Own`, whose shadow that is, and to an object that is no directory
abbrev pub with_three_shadows : Numbers
with_three_shadows =
    record (opening_with (standing 7 (Directory None) ∷ shadowed_by 8 7 ∷ standing 9 (Other 0 0) ∷ []) (root_row 6 (codes "Shared") 7 ∷ root_row 7 (codes "Own") 8 ∷ root_row 8 (codes "E") 9 ∷ [])) {
      handles = handle_to 7 4 1 ∷ handle_to 8 8 2 ∷ handle_to 9 12 3 ∷ [];
      next_order = 4;
    }

-- process 1 creates a directory whose shadow is the object of a handle
abbrev pub makes_shadowed : Place → ℕ → Event ℕ
makes_shadowed where_to shadow = Start 1 (CreateShadowed where_to 0 shadow)

-- a create refuses a shadow that no handle leads to, one that is no directory and one that has a shadow itself, after
-- the root handle and before the lookup; a fit one is the shadow of what it makes
abbrev pub ShadowsAreJudged : Type 0
ShadowsAreJudged =
    Step numbers with_three_shadows (makes_shadowed (place_at None (codes "\\Missing\\D")) 16) (answers InvalidHandle) with_three_shadows
    × Step numbers with_three_shadows (makes_shadowed (place_at None (codes "\\Missing\\D")) 12) (answers ObjectTypeMismatch) with_three_shadows
    × Step numbers with_three_shadows (makes_shadowed (place_at None (codes "\\Missing\\D")) 8) (answers InvalidParameter) with_three_shadows
    × Step numbers with_three_shadows (makes_shadowed (place_at (Some 16) (codes "D")) 8) (answers InvalidHandle) with_three_shadows
    × Step numbers with_three_shadows (makes_shadowed Unnamed 4) (gives Success (Handle 16)) (settle numbers (created numbers with_three_shadows 1 None (Directory (Some 7)) 0 16))

-- ---- paths of objects

-- the path of `\Device\Tape` has the names of the way up from it, the last of them first; the root's is `\`
abbrev pub PathsOfObjects : Type 0
PathsOfObjects =
    IsWayUp with_three_held 8 (codes "Tape" ∷ codes "Device" ∷ []) × (path_text (codes "Tape" ∷ codes "Device" ∷ []) ≡ codes "\\Device\\Tape")
    × IsWayUp with_three_held 1 [] × (path_text [] ≡ codes "\\")

-- ---- parse runs

-- a parse that takes a rest byte by byte, to the instance of the next face each, whose inner value is the
-- byte; it refuses `!`, and looks `\Device` up at `@`
abbrev pub parsed_byte : ℕ → List ℕ → ParseAnswer ℕ ℕ
parsed_byte face [] = Itself
parsed_byte face (b ∷ bs) = if b == 33 then ParseRefused 5 else if b == 64 then Reparse (codes "\\Device") else Front 1 (face + 1) b

-- the set of numbers with that parse
abbrev pub bytewise : Procedures ℕ ℕ ℕ ℕ
bytewise = record numbers { parses = λ kind. true; parsed = parsed_byte }

-- a rest of two bytes is used up in two steps, from face 1 to face 3; what the second step answers is the
-- end too, where it is a refusal or a text to look up; and no rest ends at the object itself
abbrev pub ParseRunsEnd : Type 0
ParseRunsEnd =
    ParseEnds bytewise 1 (codes "ab") (EndsMade 3 98) × ParseEnds bytewise 1 (codes "a!") (EndsRefused 5)
    × ParseEnds bytewise 1 (codes "a@b") (EndsReparse (codes "\\Device")) × ParseEnds bytewise 1 [] EndsItself

-- ---- calls of the set's procedures

-- a set whose value is the list of the calls that it got, each with the inner value of its object, which
-- is its kind; objects of kind 2 can't be opened
abbrev pub recording : Procedures ℕ (List (ℕ × Call)) ℕ ℕ
recording = record {
  type_name = λ kind. codes "Recorded";
  kind_of = λ face. face;
  same_kind = λ a b. a == b;
  parses = λ kind. false;
  same_face = λ a b. a == b;
  refuses_to_make = λ kind args. None;
  made = λ kind args. (kind, kind);
  parsed = λ face rest. Front (length rest) 0 0;
  refuses_to_open = λ told inner reason. if inner == 2 then Some 3 else None;
  opened = λ told inner reason. (told ++ (inner, Opened reason) ∷ [], inner);
  closed = λ told inner process_left left. (told ++ (inner, Closed process_left left) ∷ [], inner);
  deleted = λ told inner. told ++ (inner, Deleted) ∷ [];
}

-- the states of that set; process 1 makes an object of a kind, without a name, and closes a handle
abbrev pub Recorded : Type 0
Recorded = State ℕ (List (ℕ × Call)) ℕ ℕ

abbrev pub makes : ℕ → Event ℕ
makes kind = Start 1 (CreateObject Unnamed 0 kind [])

abbrev pub closes_handle : ℕ → Event ℕ
closes_handle handle = Start 1 (Close handle)

-- a step of process 1's seat
abbrev pub passed : ℕ → Event ℕ → Answer → Recorded → Passed ℕ (List (ℕ × Call)) ℕ ℕ
passed number event answer after = record { entry = record { number = number; seat = 1; event = event; answer = answer }; outcome = None; after = after }

-- an object is made and gets handle 4; another's open is refused, so that it is deleted; and the handle
-- is closed
abbrev pub after_made : Recorded
after_made = settle recording (created recording (opening []) 1 None (Other 1 1) 0 4)

abbrev pub after_refused : Recorded
after_refused = dropped recording after_made (Other 2 2)

abbrev pub after_closed : Recorded
after_closed = settle recording (closed_handle recording after_refused (handle_to 7 4 1))

abbrev pub made_and_closed : List (Passed ℕ (List (ℕ × Call)) ℕ ℕ)
made_and_closed =
    passed 1 (makes 1) (gives Success (Handle 4)) after_made ∷ passed 2 (makes 2) (answers (TypeRefused 3)) after_refused
    ∷ passed 3 (closes_handle 4) (answers Success) after_closed ∷ []

-- the calls on the object, and on the one whose open is refused, which has no open and one delete; and
-- they are those that the set got
abbrev pub CallsOfMadeAndClosed : Type 0
CallsOfMadeAndClosed =
    Passes recording (opening []) 0 made_and_closed × (calls_of_run (opening []) made_and_closed 7 ≡ Opened Created ∷ Closed 0 0 ∷ Deleted ∷ [])
    × (calls_of_run (opening []) made_and_closed 8 ≡ Deleted ∷ [])
    × (after_closed.set ≡ (1, Opened Created) ∷ (2, Deleted) ∷ (1, Closed 0 0) ∷ (1, Deleted) ∷ [])

-- object 7 is one of the set, without a name, to which process 1 has two handles
abbrev pub with_two_handles : Recorded
with_two_handles =
    let start : Recorded = opening [] in
    record start {
      objects = start.objects ++ record { id = 7; body = Other 1 1; permanent = false; exclusive = false } ∷ [];
      handles = handle_to 7 4 1 ∷ handle_to 7 8 2 ∷ [];
      next_id = 8;
      next_order = 3;
    }

abbrev pub after_one_close : Recorded
after_one_close = settle recording (closed_handle recording with_two_handles (handle_to 7 4 1))

abbrev pub after_both_closes : Recorded
after_both_closes = settle recording (closed_handle recording after_one_close (handle_to 7 8 2))

abbrev pub closed_twice : List (Passed ℕ (List (ℕ × Call)) ℕ ℕ)
closed_twice =
    passed 1 (closes_handle 4) (answers Success) after_one_close ∷ passed 2 (closes_handle 8) (answers Success) after_both_closes ∷ []

-- each close is given the handles that are left after it, and the delete comes after the last
abbrev pub CallsOfTwoCloses : Type 0
CallsOfTwoCloses =
    Passes recording with_two_handles 0 closed_twice
    × (calls_of_run with_two_handles closed_twice 7 ≡ Closed 1 1 ∷ Closed 0 0 ∷ Deleted ∷ [])
    × (after_both_closes.set ≡ (1, Closed 1 1) ∷ (1, Closed 0 0) ∷ (1, Deleted) ∷ [])

-- objects 7 and 8 are two of the set, without names; process 1 has two handles to the first, and then one
-- to the second, and process 2 has one to the first
abbrev pub with_two_processes : Recorded
with_two_processes =
    let start : Recorded = opening [] in
    record start {
      objects = start.objects ++ record { id = 7; body = Other 1 1; permanent = false; exclusive = false } ∷ record { id = 8; body = Other 3 3; permanent = false; exclusive = false } ∷ [];
      handles = handle_to 7 4 1 ∷ record { process = 2; value = 4; object = 7; inherit = false; order = 2 } ∷ handle_to 7 8 3 ∷ handle_to 8 12 4 ∷ [];
      processes = record { number = 1; map = None } ∷ record { number = 2; map = None } ∷ [];
      next_id = 9;
      next_process = 3;
      next_order = 5;
    }

-- where process 1 ends its handles are closed in the order in which they were opened, each close with the
-- handles that are left after it; the object that has none goes
abbrev pub ClosesOfAnEnd : Type 0
ClosesOfAnEnd =
    let left = ended recording with_two_processes 1 in
    (left.set ≡ (1, Closed 1 2) ∷ (1, Closed 0 1) ∷ (3, Closed 0 0) ∷ [])
    × ((settle recording left).set ≡ (1, Closed 1 2) ∷ (1, Closed 0 1) ∷ (3, Closed 0 0) ∷ (3, Deleted) ∷ [])
    × (closes_at_end with_two_processes 1 7 ≡ Closed 1 2 ∷ Closed 0 1 ∷ []) × (closes_at_end with_two_processes 1 8 ≡ Closed 0 0 ∷ [])

module _ (K T F I : Type 0) where
  -- the opening state is settled, for each set of types
  abbrev pub OpeningIsSettled : Type 0
  OpeningIsSettled = (g : Procedures K T F I) (set : T) → settle g (opening set) ≡ opening set
