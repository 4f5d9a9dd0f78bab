-- Verbs: the table of verbs.
--
-- Source: this profile.
use Rattle.std.specs.Prelude.{ℕ, List, [], ◌∷◌, Option, Some, None, codes}
use Rattle.std.specs.Option.{option_map}
use Rattle.ob_parts.specs.declared.sort.PartForm.{PartForm}
use Rattle.ob_parts.specs.declared.sort.PartForm.TheVariants as part
use Rattle.ob_parts.specs.declared.sort.LastForm.{LastForm}
use Rattle.ob_parts.specs.declared.sort.LastForm.TheVariants as last
use Rattle.ob_lines.specs.declared.verb.Verb.{Verb}
use Rattle.ob_lines.specs.declared.verb.Verb.TheVariants as verb
use Rattle.ob_lines.specs.declared.verb.VerbRow.{VerbRow}

-- sorts of parts that have a space after them, in order, and the sort of the last part
abbrev pub Sorts : Type 0
Sorts = List PartForm × LastForm

-- a verb's row: its word, and the sorts of its operands
abbrev pub Row : Type 0
Row = List ℕ × Option Sorts

-- the row of a verb; `exit` has no operands
abbrev pub row_of : Verb → Row
row_of verb.Dir = (codes "dir", Some (part.Place ∷ part.Flags ∷ [], last.SetsVariable))
row_of verb.Shadow = (codes "shadow", Some (part.Handle ∷ part.Place ∷ part.Flags ∷ [], last.SetsVariable))
row_of verb.Link = (codes "link", Some (part.Place ∷ part.Flags ∷ part.Text ∷ [], last.SetsVariable))
row_of verb.Make = (codes "make", Some (part.Kind ∷ part.Place ∷ part.Flags ∷ part.Text ∷ [], last.SetsVariable))
row_of verb.OpenDir = (codes "opendir", Some (part.Name ∷ part.Flags ∷ [], last.SetsVariable))
row_of verb.OpenLink = (codes "openlink", Some (part.Name ∷ part.Flags ∷ [], last.SetsVariable))
row_of verb.Open = (codes "open", Some (part.Want ∷ part.Name ∷ part.Flags ∷ [], last.SetsVariable))
row_of verb.Close = (codes "close", Some ([], last.Handle))
row_of verb.Target = (codes "target", Some ([], last.Handle))
row_of verb.Name = (codes "name", Some ([], last.Handle))
row_of verb.List = (codes "list", Some (part.Handle ∷ part.Room ∷ [], last.Mode))
row_of verb.Dup = (codes "dup", Some (part.Handle ∷ part.Process ∷ part.Inherit ∷ [], last.SetsVariable))
row_of verb.Temp = (codes "temp", Some ([], last.Handle))
row_of verb.Perm = (codes "perm", Some ([], last.Handle))
row_of verb.Map = (codes "map", Some ([], last.Handle))
row_of verb.New = (codes "new", Some (part.Inherit ∷ [], last.SetsProcess))
row_of verb.Exit = (codes "exit", None)

-- all verbs
abbrev pub all_verbs : List Verb
all_verbs =
    verb.Dir ∷ verb.Shadow ∷ verb.Link ∷ verb.Make ∷ verb.OpenDir ∷ verb.OpenLink ∷ verb.Open ∷ verb.Close ∷ verb.Target ∷ verb.Name
    ∷ verb.List ∷ verb.Dup ∷ verb.Temp ∷ verb.Perm ∷ verb.Map ∷ verb.New ∷ verb.Exit ∷ []

-- the word of a verb
abbrev pub verb_text : Verb → List ℕ
verb_text verb = (row_of verb).0

-- the sorts of a verb's operands
abbrev pub sorts_of : Verb → Option Sorts
sorts_of verb = (row_of verb).1

-- a verb and its row, whose slices are seen as the lists that they hold
abbrev pub row_seen : VerbRow → Verb × Row
row_seen row = (row.verb, (row.word.now, option_map (λ sorts. (sorts.0.now, sorts.1)) row.sorts))
