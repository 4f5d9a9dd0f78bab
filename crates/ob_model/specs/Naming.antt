-- The answers of a query of an object: its path, which is the names on the way from it up to the root, and the
-- target of a link.
--
-- Sources: ObQueryNameString, ZwQuerySymbolicLinkObject (Windows Driver Kit); Windows Internals, Object
-- Manager (object names, symbolic links). That an object without a path has the empty text, and the
-- refusals, are this profile.
use Rattle.std.specs.Prelude.{◌≡◌, ◌≢◌, ℕ, ◌==◌, nat_lt, if◌then◌else◌, List, [], ◌∷◌, ◌++◌, length, Option, None, Some, ◌⊎◌, MatchOption}
use Rattle.std.specs.List.{find}
use Rattle.std.specs.Option.{option_and_then}
use Rattle.ob_base.specs.declared.status.Status.TheVariants.{Success, ObjectTypeMismatch, NameTooLong}
use Rattle.ob_model.specs.declared.reply.Answer.{Answer}
use Rattle.ob_model.specs.declared.reply.Given.TheVariants.{Text}
use Rattle.ob_model.specs.declared.state.Body.{Body}
use Rattle.ob_model.specs.declared.state.Body.TheVariants.{Directory, Link, Other}
use Rattle.ob_model.specs.declared.state.Row.{Row}
use Rattle.ob_model.specs.Names.{separator, longest_name}
use Rattle.ob_model.specs.State.{State, root_id, body_of}
use Rattle.ob_model.specs.Refusals.{gives, answers}

module _ {K T F I : Type 0} where
  -- the row that names an object
  abbrev pub row_of : State K T F I → ℕ → Option Row
  row_of s o = find (λ r. r.object == o) s.rows

  -- these are the names on the way up from an object to the root, its own name first: each directory
  -- on the way has one
  abbrev pub IsWayUp : State K T F I → ℕ → List (List ℕ) → Type 0
  IsWayUp s o [] = o ≡ root_id
  IsWayUp s o (c ∷ cs) = (o ≢ root_id) × ((r : Row) × (row_of s o ≡ Some r) × (c ≡ r.name) × IsWayUp s r.directory cs)

-- the text of these names, the last of them first, each after a separator
abbrev pub names_joined : List (List ℕ) → List ℕ
names_joined [] = []
names_joined (c ∷ cs) = names_joined cs ++ separator ∷ c

-- the path that a way up says: the separator alone for the root itself
abbrev pub path_text : List (List ℕ) → List ℕ
path_text [] = separator ∷ []
path_text (c ∷ cs) = names_joined (c ∷ cs)

-- the answer that gives a path
abbrev pub path_answer : List ℕ → Answer
path_answer text = if nat_lt longest_name (length text) then answers NameTooLong else gives Success (Text text)

-- the path of an object is the answer, or the empty text where it or a directory above it has no name
abbrev pub TellsName : {K T F I : Type 0} → State K T F I → ℕ → Answer → Type 0
TellsName s o answer =
    ((cs : List (List ℕ)) × IsWayUp s o cs × (answer ≡ path_answer (path_text cs)))
    ⊎ (((cs : List (List ℕ)) → IsWayUp s o cs → ⊥) × (answer ≡ gives Success (Text [])))

-- the target of a link
abbrev pub target_of : {F I : Type 0} → Body F I → Option (List ℕ)
target_of (Directory shadow) = None
target_of (Link target) = Some target
target_of (Other face inner) = None

-- the target of a link is the answer, as it was stored; any other object is of another type
abbrev pub TellsTarget : {K T F I : Type 0} → State K T F I → ℕ → Answer → Type 0
TellsTarget s o answer =
    MatchOption (option_and_then target_of (body_of s o)) (answer ≡ answers ObjectTypeMismatch) (λ target. answer ≡ gives Success (Text target))
