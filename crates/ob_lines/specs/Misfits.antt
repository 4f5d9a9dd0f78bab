-- Misfits: where a line that is no script line stops being one, and what it should go on with.
--
-- A line is read part by part. It stops at the first part that is missing, with the space after it where the form has one.
-- Source: this profile.
use Rattle.std.specs.Prelude.{◌≡◌, ◌⊎◌, ℕ, ◌+◌, ◌≤◌, ◌<◌, List, [], ◌∷◌, ◌++◌, length, Some, ⊤, codes}
use Rattle.ob_parts.specs.declared.sort.PartForm.{PartForm}
use Rattle.ob_parts.specs.declared.sort.PartForm.TheVariants as part
use Rattle.ob_parts.specs.declared.sort.LastForm.{LastForm}
use Rattle.ob_parts.specs.declared.sort.LastForm.TheVariants as last
use Rattle.ob_parts.specs.Parts.{BeginsWithProcess}
use Rattle.ob_parts.specs.Stops.{StopsAt, part_text, last_text}
use Rattle.ob_lines.specs.declared.form.Form.{Form}
use Rattle.ob_lines.specs.declared.misfit.Expected.{Expected}
use Rattle.ob_lines.specs.declared.misfit.Expected.TheVariants as expected
use Rattle.ob_lines.specs.declared.misfit.Misfit.{Misfit}
use Rattle.ob_lines.specs.declared.verb.Verb.{Verb}
use Rattle.ob_lines.specs.Grammar.{IsLine, longest_line}
use Rattle.ob_lines.specs.Verbs.{Sorts, sorts_of, verb_text}

-- the sorts of what follows a word and a space: of a request's verb, or of `begin`, `end` or `drop`
abbrev pub HasSorts : List ℕ → Sorts → Type 0
HasSorts word sorts =
    ((verb : Verb) × (word ≡ verb_text verb) × (sorts_of verb ≡ Some sorts))
    ⊎ (((word ≡ codes "begin") × (sorts ≡ (part.Want ∷ part.Name ∷ part.Flags ∷ [], last.SetsVariable)))
    ⊎ ((word ≡ codes "end") ⊎ (word ≡ codes "drop")) × (sorts ≡ ([], last.Variable)))

-- the bytes begin with a word and a space that the operands follow; or are a word, with none
abbrev pub IsCutAtSpace : (bytes word operands : List ℕ) → Type 0
IsCutAtSpace bytes word operands = (bytes ≡ word ++ codes " " ++ operands) ⊎ ((bytes ≡ word) × (operands ≡ []))

-- The bytes after a process variable stop at the rest, which should be parts of these sorts: after a verb alone at the end, where all its
-- operands are missing; and else where its operands stop.
abbrev pub StopsAfterVerb : List ℕ → Sorts → List ℕ → Type 0
StopsAfterVerb bytes left rest =
    (word : List ℕ) × (parts : List PartForm) × HasSorts word (parts, left.1)
    × (((bytes ≡ word) × (left.0 ≡ parts) × (rest ≡ []))
    ⊎ ((operands : List ℕ) × (bytes ≡ word ++ codes " " ++ operands) × StopsAt parts left.1 operands left.0 rest))

-- The line stops at the rest, which should be what is expected: at its beginning where it begins with no process variable; after that
-- where no verb with operands follows; or after a verb.
abbrev pub StopsLine : List ℕ → Expected → List ℕ → Type 0
StopsLine line expected.Line rest = (rest ≡ line) × ((process more : List ℕ) → ¬ BeginsWithProcess line process more)
StopsLine line expected.Verb rest =
    (process : List ℕ) × BeginsWithProcess line process rest
    × ((word operands : List ℕ) (sorts : Sorts) → IsCutAtSpace rest word operands → ¬ HasSorts word sorts)
StopsLine line (expected.Parts parts last) rest =
    (process more : List ℕ) × BeginsWithProcess line process more × StopsAfterVerb more (parts.now, last) rest
StopsLine line expected.End rest = ⊥

-- the column, from 1, is that of a line's byte with which the rest begins
abbrev pub IsColumn : List ℕ → List ℕ → ℕ → Type 0
IsColumn line rest column = column + length rest ≡ length line + 1

-- the line is no script line: it is too long, and should end before this column; or it stops in this column
pub record IsMisfit (line : List ℕ) (misfit : Misfit) : Type 0 where
  pub no_form : (form : Form (List ℕ)) → ¬ IsLine line form
  pub stops : ((longest_line < length line) × (misfit.expected ≡ expected.End) × (misfit.column ≡ longest_line + 1))
      ⊎ ((length line ≤ longest_line) × ((rest : List ℕ) × StopsLine line misfit.expected rest × IsColumn line rest misfit.column))

-- no form has more parts
abbrev pub most_parts : ℕ
most_parts = 5

-- an expectation has no more parts than a form
abbrev pub IsFew : Expected → Type 0
IsFew expected.Line = ⊤
IsFew expected.Verb = ⊤
IsFew (expected.Parts parts last) = length parts.now + 1 ≤ most_parts
IsFew expected.End = ⊤

-- parts of these sorts as docs/script.md writes them
abbrev pub sorts_text : List PartForm → LastForm → List ℕ
sorts_text [] last = last_text last
sorts_text (part ∷ parts) last = part_text part ++ codes " " ++ sorts_text parts last

-- an expectation in the words of docs/script.md, where a line may begin as those of a session do
abbrev pub expected_text : Expected → List ℕ
expected_text expected.Line = codes "P, stat or tree"
expected_text expected.Verb = codes "a verb and its parts"
expected_text (expected.Parts parts last) = sorts_text parts.now last
expected_text expected.End = codes "the end of the line"

-- two misfits of a line are in the same column, and the same is expected there
abbrev pub LinesHaveOneMisfit : Type 0
LinesHaveOneMisfit =
    (line : List ℕ) (a b : Misfit) → IsMisfit line a → IsMisfit line b → (a.column ≡ b.column) × (expected_text a.expected ≡ expected_text b.expected)
