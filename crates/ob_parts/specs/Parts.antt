-- The parts of a line: texts, handles, names, places, kinds, flags, rooms, process variables, inheritance and the variable
-- that is set. Handles are alone, or, as all others but the last, at the beginning of bytes that continue after them and
-- a space. Several parts after one another are alone.
--
-- Handles, names and places are generic in how they hold bytes: in the code as slices of the line, here as lists.
-- Source: this profile.
use Rattle.std.specs.Prelude.{◌≡◌, ℕ, Bool, true, false, List, [], ◌++◌, Option, None, Some, codes}
use Rattle.std.specs.Borrow.{Bor}
use Rattle.ob_parts.specs.declared.handle.HandleForm.{HandleForm}
use Rattle.ob_parts.specs.declared.handle.Offset.{Offset}
use Rattle.ob_parts.specs.declared.handle.Offset.TheVariants.{Zero, One, Two, Three}
use Rattle.ob_parts.specs.declared.kind.KindForm.{KindForm}
use Rattle.ob_parts.specs.declared.name.NameForm.{NameForm}
use Rattle.ob_parts.specs.declared.name.NameForm.TheVariants.{Absolute, Relative}
use Rattle.ob_parts.specs.declared.name.PlaceForm.{PlaceForm}
use Rattle.ob_parts.specs.declared.name.PlaceForm.TheVariants.{Named, Unnamed}
use Rattle.ob_parts.specs.Text.{IsVariable, IsProcessVariable, IsText}
use Rattle.ob_parts.specs.Flags.{IsFlags}
use Rattle.ob_parts.specs.Kinds.{name_of}
use Rattle.ob_parts.specs.Pages.{IsRoom}

-- a text between double quotes
abbrev pub BeginsWithText : List ℕ → List ℕ → List ℕ → Type 0
BeginsWithText bytes text rest = IsText text × (bytes ≡ codes "\"" ++ text ++ codes "\" " ++ rest)

-- what follows a handle variable for what is added to its value
abbrev pub offset_text : Offset → List ℕ
offset_text Zero = []
offset_text One = codes "+1"
offset_text Two = codes "+2"
offset_text Three = codes "+3"

-- and what is added
abbrev pub offset_value : Offset → ℕ
offset_value Zero = 0
offset_value One = 1
offset_value Two = 2
offset_value Three = 3

-- a handle: a handle variable, or one with `+1`, `+2` or `+3` directly after it
abbrev pub IsHandle : List ℕ → HandleForm (List ℕ) → Type 0
IsHandle bytes handle = IsVariable handle.variable × (bytes ≡ handle.variable ++ offset_text handle.offset)

abbrev pub BeginsWithHandle : List ℕ → HandleForm (List ℕ) → List ℕ → Type 0
BeginsWithHandle bytes handle rest = (spelled : List ℕ) × IsHandle spelled handle × (bytes ≡ spelled ++ codes " " ++ rest)

-- a name: `TEXT`, which is absolute; or `H:TEXT`, which is relative to a handle
abbrev pub BeginsWithName : List ℕ → NameForm (List ℕ) → List ℕ → Type 0
BeginsWithName bytes (Absolute text) rest = BeginsWithText bytes text rest
BeginsWithName bytes (Relative root text) rest =
    (spelled quoted : List ℕ) × IsHandle spelled root × (bytes ≡ spelled ++ codes ":" ++ quoted) × BeginsWithText quoted text rest

-- the text of a name
abbrev pub text_of : NameForm (List ℕ) → List ℕ
text_of (Absolute text) = text
text_of (Relative root text) = text

-- a place: `NAME` or `none`
abbrev pub BeginsWithPlace : List ℕ → PlaceForm (List ℕ) → List ℕ → Type 0
BeginsWithPlace bytes (Named name) rest = BeginsWithName bytes name rest
BeginsWithPlace bytes Unnamed rest = bytes ≡ codes "none " ++ rest

-- a kind, by the name of its type
abbrev pub BeginsWithKind : List ℕ → KindForm → List ℕ → Type 0
BeginsWithKind bytes kind rest = bytes ≡ name_of kind ++ codes " " ++ rest

-- what an open wants: a kind, or `any` for each object
abbrev pub BeginsWithWant : List ℕ → Option KindForm → List ℕ → Type 0
BeginsWithWant bytes None rest = bytes ≡ codes "any " ++ rest
BeginsWithWant bytes (Some kind) rest = BeginsWithKind bytes kind rest

-- flags, and their bits
abbrev pub BeginsWithFlags : List ℕ → ℕ → List ℕ → Type 0
BeginsWithFlags bytes attrs rest = (flags : List ℕ) × IsFlags flags attrs × (bytes ≡ flags ++ codes " " ++ rest)

-- a room
abbrev pub BeginsWithRoom : List ℕ → ℕ → List ℕ → Type 0
BeginsWithRoom bytes room rest = (spelled : List ℕ) × IsRoom spelled room × (bytes ≡ spelled ++ codes " " ++ rest)

-- a process variable
abbrev pub BeginsWithProcess : List ℕ → List ℕ → List ℕ → Type 0
BeginsWithProcess bytes process rest = IsProcessVariable process × (bytes ≡ process ++ codes " " ++ rest)

-- `inherit`, or `plain` for no inheritance
abbrev pub BeginsWithInherit : List ℕ → Bool → List ℕ → Type 0
BeginsWithInherit bytes true rest = bytes ≡ codes "inherit " ++ rest
BeginsWithInherit bytes false rest = bytes ≡ codes "plain " ++ rest

-- `=V`, with nothing after it
abbrev pub IsSetting : List ℕ → List ℕ → Type 0
IsSetting bytes variable = IsVariable variable × (bytes ≡ codes "=" ++ variable)

-- `=Q`, with nothing after it
abbrev pub SetsProcess : List ℕ → List ℕ → Type 0
SetsProcess bytes process = IsProcessVariable process × (bytes ≡ codes "=" ++ process)

-- `FLAGS =V`
abbrev pub IsFlagsAndVariable : List ℕ → ℕ → List ℕ → Type 0
IsFlagsAndVariable bytes attrs variable = (rest : List ℕ) × BeginsWithFlags bytes attrs rest × IsSetting rest variable

-- `FLAGS TEXT =V`
abbrev pub IsFlagsTextAndVariable : List ℕ → ℕ → List ℕ → List ℕ → Type 0
IsFlagsTextAndVariable bytes attrs text variable =
    (rest more : List ℕ) × BeginsWithFlags bytes attrs rest × BeginsWithText rest text more × IsSetting more variable

-- `NAME FLAGS =V`
abbrev pub IsNameFlagsAndVariable : List ℕ → NameForm (List ℕ) → ℕ → List ℕ → Type 0
IsNameFlagsAndVariable bytes name attrs variable = (rest : List ℕ) × BeginsWithName bytes name rest × IsFlagsAndVariable rest attrs variable

-- `WANT NAME FLAGS =V`
abbrev pub IsWantNameFlagsAndVariable : List ℕ → Option KindForm → NameForm (List ℕ) → ℕ → List ℕ → Type 0
IsWantNameFlagsAndVariable bytes want name attrs variable =
    (rest : List ℕ) × BeginsWithWant bytes want rest × IsNameFlagsAndVariable rest name attrs variable

-- `PLACE FLAGS TEXT =V`
abbrev pub IsPlaceFlagsTextAndVariable : List ℕ → PlaceForm (List ℕ) → ℕ → List ℕ → List ℕ → Type 0
IsPlaceFlagsTextAndVariable bytes place attrs text variable =
    (rest : List ℕ) × BeginsWithPlace bytes place rest × IsFlagsTextAndVariable rest attrs text variable

-- a handle, a name, and a place, whose slices of bytes are seen as the lists that they hold
abbrev pub handle_seen : HandleForm (Bor (List ℕ)) → HandleForm (List ℕ)
handle_seen handle = record { variable = handle.variable.now; offset = handle.offset }

abbrev pub name_seen : NameForm (Bor (List ℕ)) → NameForm (List ℕ)
name_seen (Absolute text) = Absolute text.now
name_seen (Relative root text) = Relative (handle_seen root) text.now

abbrev pub place_seen : PlaceForm (Bor (List ℕ)) → PlaceForm (List ℕ)
place_seen (Named name) = Named (name_seen name)
place_seen Unnamed = Unnamed
