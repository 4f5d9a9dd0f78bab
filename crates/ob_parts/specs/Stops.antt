-- Sorts of parts, and where bytes stop being parts of given sorts.
--
-- The sorts of a form are those of the parts that have a space after them, in order, and that of its last part.
-- Source: this profile.
use Rattle.std.specs.Prelude.{◌≡◌, ℕ, Bool, List, [], ◌∷◌, ◌++◌, Option, codes}
use Rattle.ob_parts.specs.declared.handle.HandleForm.{HandleForm}
use Rattle.ob_parts.specs.declared.kind.KindForm.{KindForm}
use Rattle.ob_parts.specs.declared.name.NameForm.{NameForm}
use Rattle.ob_parts.specs.declared.name.PlaceForm.{PlaceForm}
use Rattle.ob_parts.specs.declared.page.PageMode.{PageMode}
use Rattle.ob_parts.specs.declared.sort.PartForm.{PartForm}
use Rattle.ob_parts.specs.declared.sort.PartForm.TheVariants as part
use Rattle.ob_parts.specs.declared.sort.LastForm.{LastForm}
use Rattle.ob_parts.specs.declared.sort.LastForm.TheVariants as last
use Rattle.ob_parts.specs.Text.{IsVariable}
use Rattle.ob_parts.specs.Pages.{mode_text}
use Rattle.ob_parts.specs.Parts.{BeginsWithText, IsHandle, BeginsWithHandle, BeginsWithName, BeginsWithPlace, BeginsWithKind, BeginsWithWant, BeginsWithFlags, BeginsWithRoom, BeginsWithProcess, BeginsWithInherit, IsSetting, SetsProcess}

-- the bytes begin with a part of this sort, and the rest follows it and a space
abbrev pub BeginsWithPart : PartForm → List ℕ → List ℕ → Type 0
BeginsWithPart part.Process bytes rest = (process : List ℕ) × BeginsWithProcess bytes process rest
BeginsWithPart part.Handle bytes rest = (handle : HandleForm (List ℕ)) × BeginsWithHandle bytes handle rest
BeginsWithPart part.Name bytes rest = (name : NameForm (List ℕ)) × BeginsWithName bytes name rest
BeginsWithPart part.Place bytes rest = (place : PlaceForm (List ℕ)) × BeginsWithPlace bytes place rest
BeginsWithPart part.Kind bytes rest = (kind : KindForm) × BeginsWithKind bytes kind rest
BeginsWithPart part.Want bytes rest = (want : Option KindForm) × BeginsWithWant bytes want rest
BeginsWithPart part.Flags bytes rest = (attrs : ℕ) × BeginsWithFlags bytes attrs rest
BeginsWithPart part.Text bytes rest = (text : List ℕ) × BeginsWithText bytes text rest
BeginsWithPart part.Room bytes rest = (room : ℕ) × BeginsWithRoom bytes room rest
BeginsWithPart part.Inherit bytes rest = (inherit : Bool) × BeginsWithInherit bytes inherit rest

-- the bytes are a last part of this sort
abbrev pub IsLastPart : LastForm → List ℕ → Type 0
IsLastPart last.Handle bytes = (handle : HandleForm (List ℕ)) × IsHandle bytes handle
IsLastPart last.Mode bytes = (mode : PageMode) × (bytes ≡ mode_text mode)
IsLastPart last.Variable bytes = IsVariable bytes
IsLastPart last.SetsVariable bytes = (variable : List ℕ) × IsSetting bytes variable
IsLastPart last.SetsProcess bytes = (process : List ℕ) × SetsProcess bytes process

-- the bytes are parts of these sorts
abbrev pub AreParts : List PartForm → LastForm → List ℕ → Type 0
AreParts [] last bytes = IsLastPart last bytes
AreParts (part ∷ parts) last bytes = (rest : List ℕ) × BeginsWithPart part bytes rest × AreParts parts last rest

-- the bytes begin with parts of these sorts, each with the space after it, and the rest follows them
abbrev pub BeginsWithParts : List PartForm → List ℕ → List ℕ → Type 0
BeginsWithParts [] bytes rest = bytes ≡ rest
BeginsWithParts (part ∷ parts) bytes rest = (more : List ℕ) × BeginsWithPart part bytes more × BeginsWithParts parts more rest

-- the bytes lack the first part of these sorts
abbrev pub LacksFirst : List PartForm → LastForm → List ℕ → Type 0
LacksFirst [] last bytes = ¬ IsLastPart last bytes
LacksFirst (part ∷ parts) last bytes = (rest : List ℕ) → ¬ BeginsWithPart part bytes rest

-- the bytes stop being parts of these sorts at the rest, which should be parts of the sorts that are left and lacks the first of them
abbrev pub StopsAt : List PartForm → LastForm → List ℕ → List PartForm → List ℕ → Type 0
StopsAt parts last bytes left rest = (done : List PartForm) × (parts ≡ done ++ left) × BeginsWithParts done bytes rest × LacksFirst left last rest

-- the name of a sort in docs/script.md
abbrev pub part_text : PartForm → List ℕ
part_text part.Process = codes "Q"
part_text part.Handle = codes "H"
part_text part.Name = codes "NAME"
part_text part.Place = codes "PLACE"
part_text part.Kind = codes "KIND"
part_text part.Want = codes "WANT"
part_text part.Flags = codes "FLAGS"
part_text part.Text = codes "TEXT"
part_text part.Room = codes "ROOM"
part_text part.Inherit = codes "plain or inherit"

abbrev pub last_text : LastForm → List ℕ
last_text last.Handle = codes "H"
last_text last.Mode = codes "MODE"
last_text last.Variable = codes "V"
last_text last.SetsVariable = codes "=V"
last_text last.SetsProcess = codes "=Q"
