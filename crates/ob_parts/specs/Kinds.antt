-- Kinds of objects, and the names of their types, by which a line names them.
--
-- Source: this profile.
use Rattle.std.specs.Prelude.{ℕ, List, codes}
use Rattle.ob_parts.specs.declared.kind.KindForm.{KindForm}
use Rattle.ob_parts.specs.declared.kind.KindForm.TheVariants.{Event, Mutant, Section, Device, File, Key}

-- the name of the kind's type
abbrev pub name_of : KindForm → List ℕ
name_of Event = codes "Event"
name_of Mutant = codes "Mutant"
name_of Section = codes "Section"
name_of Device = codes "Device"
name_of File = codes "File"
name_of Key = codes "Key"
