-- The grammar: what a line of a script is.
--
-- A form is generic in how it holds bytes: in the code as slices of the line, here as lists.
-- Source: this profile.
use Rattle.std.specs.Prelude.{◌≡◌, ℕ, Bool, ◌≤◌, ◌⊎◌, List, [], ◌++◌, length, codes}
use Rattle.std.specs.Borrow.{Bor}
use Rattle.ob_parts.specs.declared.handle.HandleForm.{HandleForm}
use Rattle.ob_lines.specs.declared.form.Form.{Form}
use Rattle.ob_lines.specs.declared.form.Form.TheVariants.{Nothing, Stat, Asks, Waits}
use Rattle.ob_parts.specs.declared.page.PageMode.{PageMode}
use Rattle.ob_lines.specs.declared.pending.PendingForm.{PendingForm}
use Rattle.ob_lines.specs.declared.pending.PendingForm.TheVariants.{Begin, End, Drop}
use Rattle.ob_parts.specs.declared.name.PlaceForm.{PlaceForm}
use Rattle.ob_parts.specs.declared.name.PlaceForm.TheVariants.{Named, Unnamed}
use Rattle.ob_lines.specs.declared.request.Request.{Request}
use Rattle.ob_lines.specs.declared.request.Request.TheVariants.{CreateDirectory, CreateShadowed, CreateLink, CreateObject, OpenDirectory, OpenLink, OpenObject, Close, QueryLink, QueryName, QueryDirectory, Duplicate, MakeTemporary, MakePermanent, SetDeviceMap, NewProcess, ExitProcess}
use Rattle.ob_lines.specs.declared.verb.Verb.{Verb}
use Rattle.ob_lines.specs.declared.verb.Verb.TheVariants as verb
use Rattle.ob_lines.specs.Verbs.{verb_text}
use Rattle.ob_parts.specs.Text.{IsText, IsVariable}
use Rattle.ob_parts.specs.Pages.{mode_text}
use Rattle.ob_parts.specs.Parts.{IsHandle, BeginsWithHandle, BeginsWithPlace, BeginsWithKind, BeginsWithRoom, BeginsWithProcess, BeginsWithInherit, IsSetting, SetsProcess, IsFlagsAndVariable, IsNameFlagsAndVariable, IsWantNameFlagsAndVariable, IsPlaceFlagsTextAndVariable, text_of, handle_seen, name_seen, place_seen}

-- the most bytes that a line may have, without its LF
abbrev pub longest_line : ℕ
longest_line = 262144

-- `H PLACE FLAGS =V`
abbrev pub IsHandlePlaceFlagsAndVariable : List ℕ → HandleForm (List ℕ) → PlaceForm (List ℕ) → ℕ → List ℕ → Type 0
IsHandlePlaceFlagsAndVariable bytes handle place attrs variable =
    (rest more : List ℕ) × BeginsWithHandle bytes handle rest × BeginsWithPlace rest place more × IsFlagsAndVariable more attrs variable

-- `H ROOM MODE`
abbrev pub IsHandleRoomAndMode : List ℕ → HandleForm (List ℕ) → ℕ → PageMode → Type 0
IsHandleRoomAndMode bytes handle room mode =
    (rest more : List ℕ) × BeginsWithHandle bytes handle rest × BeginsWithRoom rest room more × (more ≡ mode_text mode)

-- `H Q plain =V` or `H Q inherit =V`
abbrev pub IsHandleProcessAndVariable : List ℕ → HandleForm (List ℕ) → List ℕ → Bool → List ℕ → Type 0
IsHandleProcessAndVariable bytes handle process inherit variable =
    (rest more last : List ℕ) × BeginsWithHandle bytes handle rest × BeginsWithProcess rest process more × BeginsWithInherit more inherit last
    × IsSetting last variable

-- `plain =Q` or `inherit =Q`
abbrev pub IsInheritAndProcess : List ℕ → Bool → List ℕ → Type 0
IsInheritAndProcess bytes inherit process = (rest : List ℕ) × BeginsWithInherit bytes inherit rest × SetsProcess rest process

-- the verb of a request
abbrev pub verb_of : Request (List ℕ) → Verb
verb_of (CreateDirectory place attrs variable) = verb.Dir
verb_of (CreateShadowed shadow place attrs variable) = verb.Shadow
verb_of (CreateLink place attrs target variable) = verb.Link
verb_of (CreateObject kind place attrs args variable) = verb.Make
verb_of (OpenDirectory name attrs variable) = verb.OpenDir
verb_of (OpenLink name attrs variable) = verb.OpenLink
verb_of (OpenObject want name attrs variable) = verb.Open
verb_of (Close handle) = verb.Close
verb_of (QueryLink handle) = verb.Target
verb_of (QueryName handle) = verb.Name
verb_of (QueryDirectory handle room mode) = verb.List
verb_of (Duplicate handle to inherit variable) = verb.Dup
verb_of (MakeTemporary handle) = verb.Temp
verb_of (MakePermanent handle) = verb.Perm
verb_of (SetDeviceMap handle) = verb.Map
verb_of (NewProcess inherit child) = verb.New
verb_of ExitProcess = verb.Exit

-- the operands of a request, which follow its verb and a space: `PLACE FLAGS =V` after `dir`,
-- `H PLACE FLAGS =V` after `shadow`, `PLACE FLAGS TEXT =V` after `link`, `KIND PLACE FLAGS TEXT =V` after `make`, `NAME FLAGS =V` after
-- `opendir` and `openlink`, `WANT NAME FLAGS =V` after `open`, `H` after `close`, `target`, `name`, `temp`,
-- `perm` and `map`, `H ROOM MODE` after `list`, `H Q plain =V` or `H Q inherit =V` after `dup`, and `plain =Q` or
-- `inherit =Q` after `new`. `exit` has no operands.
abbrev pub IsOperands : List ℕ → Request (List ℕ) → Type 0
IsOperands bytes (CreateDirectory place attrs variable) =
    (rest : List ℕ) × BeginsWithPlace bytes place rest × IsFlagsAndVariable rest attrs variable
IsOperands bytes (CreateShadowed shadow place attrs variable) = IsHandlePlaceFlagsAndVariable bytes shadow place attrs variable
IsOperands bytes (CreateLink place attrs target variable) = IsPlaceFlagsTextAndVariable bytes place attrs target variable
IsOperands bytes (CreateObject kind place attrs args variable) =
    (rest : List ℕ) × BeginsWithKind bytes kind rest × IsPlaceFlagsTextAndVariable rest place attrs args variable
IsOperands bytes (OpenDirectory name attrs variable) = IsNameFlagsAndVariable bytes name attrs variable
IsOperands bytes (OpenLink name attrs variable) = IsNameFlagsAndVariable bytes name attrs variable
IsOperands bytes (OpenObject want name attrs variable) = IsWantNameFlagsAndVariable bytes want name attrs variable
IsOperands bytes (Close handle) = IsHandle bytes handle
IsOperands bytes (QueryLink handle) = IsHandle bytes handle
IsOperands bytes (QueryName handle) = IsHandle bytes handle
IsOperands bytes (QueryDirectory handle room mode) = IsHandleRoomAndMode bytes handle room mode
IsOperands bytes (Duplicate handle to inherit variable) = IsHandleProcessAndVariable bytes handle to inherit variable
IsOperands bytes (MakeTemporary handle) = IsHandle bytes handle
IsOperands bytes (MakePermanent handle) = IsHandle bytes handle
IsOperands bytes (SetDeviceMap handle) = IsHandle bytes handle
IsOperands bytes (NewProcess inherit child) = IsInheritAndProcess bytes inherit child
IsOperands bytes ExitProcess = ⊥

-- a verb, a space and its operands
abbrev pub IsVerbAndOperands : List ℕ → Request (List ℕ) → Type 0
IsVerbAndOperands bytes request =
    (operands : List ℕ) × (bytes ≡ verb_text (verb_of request) ++ codes " " ++ operands) × IsOperands operands request

-- a request, after the process variable and a space: `exit` alone, or a verb and its operands
abbrev pub IsRequest : List ℕ → Request (List ℕ) → Type 0
IsRequest bytes request = ((bytes ≡ codes "exit") × (request ≡ ExitProcess)) ⊎ IsVerbAndOperands bytes request

-- a line on a pending open, after the process variable and a space: `begin WANT NAME FLAGS =V`,
-- `end V` or `drop V`
abbrev pub IsPending : List ℕ → PendingForm (List ℕ) → Type 0
IsPending bytes (Begin want name attrs variable) =
    (operands : List ℕ) × (bytes ≡ codes "begin " ++ operands) × IsWantNameFlagsAndVariable operands want name attrs variable
IsPending bytes (End variable) = IsVariable variable × (bytes ≡ codes "end " ++ variable)
IsPending bytes (Drop variable) = IsVariable variable × (bytes ≡ codes "drop " ++ variable)

-- an empty line, or a comment, which begins with `#`
abbrev pub IsIdle : List ℕ → Type 0
IsIdle line = (line ≡ []) ⊎ ((comment : List ℕ) × (line ≡ codes "#" ++ comment))

-- the line, without its LF, is of this form
abbrev pub IsLine : List ℕ → Form (List ℕ) → Type 0
IsLine line Nothing = IsIdle line × (length line ≤ longest_line)
IsLine line Stat = line ≡ codes "stat"
IsLine line (Asks process request) =
    (rest : List ℕ) × BeginsWithProcess line process rest × IsRequest rest request × (length line ≤ longest_line)
IsLine line (Waits process pending) =
    (rest : List ℕ) × BeginsWithProcess line process rest × IsPending rest pending × (length line ≤ longest_line)

-- a line has no two forms
abbrev pub LinesHaveOneForm : Type 0
LinesHaveOneForm = (line : List ℕ) (a b : Form (List ℕ)) → IsLine line a → IsLine line b → a ≡ b

-- the text of a place, where it has one, is a text
abbrev pub HasPlaceText : PlaceForm (List ℕ) → Type 0
HasPlaceText (Named name) = IsText (text_of name)
HasPlaceText Unnamed = Unit {0}

-- the texts of a request, where it has some, are texts
abbrev pub HasTexts : Request (List ℕ) → Type 0
HasTexts (CreateDirectory place attrs variable) = HasPlaceText place
HasTexts (CreateShadowed shadow place attrs variable) = HasPlaceText place
HasTexts (CreateLink place attrs target variable) = HasPlaceText place × IsText target
HasTexts (CreateObject kind place attrs args variable) = HasPlaceText place × IsText args
HasTexts (OpenDirectory name attrs variable) = IsText (text_of name)
HasTexts (OpenLink name attrs variable) = IsText (text_of name)
HasTexts (OpenObject want name attrs variable) = IsText (text_of name)
HasTexts (Close handle) = Unit {0}
HasTexts (QueryLink handle) = Unit {0}
HasTexts (QueryName handle) = Unit {0}
HasTexts (QueryDirectory handle room mode) = Unit {0}
HasTexts (Duplicate handle to inherit variable) = Unit {0}
HasTexts (MakeTemporary handle) = Unit {0}
HasTexts (MakePermanent handle) = Unit {0}
HasTexts (SetDeviceMap handle) = Unit {0}
HasTexts (NewProcess inherit child) = Unit {0}
HasTexts ExitProcess = Unit {0}

-- the text of a line on a pending open, where it has one, is a text
abbrev pub PendingHasTexts : PendingForm (List ℕ) → Type 0
PendingHasTexts (Begin want name attrs variable) = IsText (text_of name)
PendingHasTexts (End variable) = Unit {0}
PendingHasTexts (Drop variable) = Unit {0}

-- the texts of a form, where it has some, are texts
abbrev pub FormHasTexts : Form (List ℕ) → Type 0
FormHasTexts Nothing = Unit {0}
FormHasTexts Stat = Unit {0}
FormHasTexts (Asks process request) = HasTexts request
FormHasTexts (Waits process pending) = PendingHasTexts pending

-- a request, a line on a pending open, and a form, whose slices of bytes are seen as the lists that they
-- hold
abbrev pub request_seen : Request (Bor (List ℕ)) → Request (List ℕ)
request_seen (CreateDirectory place attrs variable) = CreateDirectory (place_seen place) attrs variable.now
request_seen (CreateShadowed shadow place attrs variable) = CreateShadowed (handle_seen shadow) (place_seen place) attrs variable.now
request_seen (CreateLink place attrs target variable) = CreateLink (place_seen place) attrs target.now variable.now
request_seen (CreateObject kind place attrs args variable) = CreateObject kind (place_seen place) attrs args.now variable.now
request_seen (OpenDirectory name attrs variable) = OpenDirectory (name_seen name) attrs variable.now
request_seen (OpenLink name attrs variable) = OpenLink (name_seen name) attrs variable.now
request_seen (OpenObject want name attrs variable) = OpenObject want (name_seen name) attrs variable.now
request_seen (Close handle) = Close (handle_seen handle)
request_seen (QueryLink handle) = QueryLink (handle_seen handle)
request_seen (QueryName handle) = QueryName (handle_seen handle)
request_seen (QueryDirectory handle room mode) = QueryDirectory (handle_seen handle) room mode
request_seen (Duplicate handle to inherit variable) = Duplicate (handle_seen handle) to.now inherit variable.now
request_seen (MakeTemporary handle) = MakeTemporary (handle_seen handle)
request_seen (MakePermanent handle) = MakePermanent (handle_seen handle)
request_seen (SetDeviceMap handle) = SetDeviceMap (handle_seen handle)
request_seen (NewProcess inherit child) = NewProcess inherit child.now
request_seen ExitProcess = ExitProcess

abbrev pub pending_seen : PendingForm (Bor (List ℕ)) → PendingForm (List ℕ)
pending_seen (Begin want name attrs variable) = Begin want (name_seen name) attrs variable.now
pending_seen (End variable) = End variable.now
pending_seen (Drop variable) = Drop variable.now

abbrev pub form_seen : Form (Bor (List ℕ)) → Form (List ℕ)
form_seen Nothing = Nothing
form_seen Stat = Stat
form_seen (Asks process request) = Asks process.now (request_seen request)
form_seen (Waits process pending) = Waits process.now (pending_seen pending)
