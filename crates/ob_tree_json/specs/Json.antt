-- The survey of a namespace as one JSON value.
--
-- Sources: RFC 8259 for JSON, as `serde_json` writes it without blanks; the keys are this profile.
use Rattle.std.specs.Prelude.{ℕ, List, [], ◌∷◌, ◌++◌, Option, None, Some, codes, encode_utf8, option_map}
use Rattle.serde_json.specs.Data.{Data, null, boolean, number, unsigned, string, array, object, Items, no_items, item, Members, no_members, member}
use Rattle.serde_json.specs.Written.{compact_text}
use Rattle.ob_model.specs.declared.state.Held.{Held}
use Rattle.ob_tree.specs.declared.survey.Seen.{Seen}
use Rattle.ob_tree.specs.declared.survey.SeenProcess.{SeenProcess}
use Rattle.ob_tree.specs.Surveyed.{Surveyed}

-- the characters whose numbers are these bytes, in UTF-8; bytes of ASCII are themselves
abbrev pub characters : List ℕ → List ℕ
characters [] = []
characters (byte ∷ bytes) = encode_utf8 byte ++ characters bytes

-- bytes as a text, a number, and a value that may lack
abbrev pub text_value : List ℕ → Data
text_value bytes = string (characters bytes)

abbrev pub number_value : ℕ → Data
number_value n = number (unsigned n)

abbrev pub value_or_null : {A : Type 0} → (A → Data) → Option A → Data
value_or_null value None = null
value_or_null value (Some x) = value x

-- an object of these keys and their values
abbrev pub members_of : List (List ℕ × Data) → Members
members_of [] = no_members
members_of (m ∷ ms) = member m.0 m.1 (members_of ms)

abbrev pub object_of : List (List ℕ × Data) → Data
object_of ms = object (members_of ms)

-- a list of values
abbrev pub items_of : {A : Type 0} → (A → Data) → List A → Items
items_of value [] = no_items
items_of value (x ∷ xs) = item (value x) (items_of value xs)

-- the directory of an object's name, its name, and the target of a link
abbrev pub directory_value : Seen → Data
directory_value x = value_or_null number_value (option_map (λ r. r.directory) x.row)

abbrev pub name_value : Seen → Data
name_value x = value_or_null text_value (option_map (λ r. r.name) x.row)

-- an object: its id, its name and the id of the directory that has it, its type, and what holds of it
abbrev pub object_value : Seen → Data
object_value x = object_of
    ((codes "directory", directory_value x)
    ∷ (codes "exclusive", boolean x.exclusive)
    ∷ (codes "handles", number_value x.handles)
    ∷ (codes "id", number_value x.id)
    ∷ (codes "name", name_value x)
    ∷ (codes "permanent", boolean x.permanent)
    ∷ (codes "pinned", number_value x.pins)
    ∷ (codes "shadow", value_or_null number_value x.shadow)
    ∷ (codes "target", value_or_null text_value x.target)
    ∷ (codes "type", text_value x.type_name)
    ∷ [])

-- a handle: the id of its object, and whether children inherit it
abbrev pub handle_value : Held → Data
handle_value h = object_of ((codes "inherit", boolean h.inherit) ∷ (codes "object", number_value h.object) ∷ [])

-- a process: its handles in their order, the id of the directory of its device map, and its number
abbrev pub process_value : SeenProcess → Data
process_value p = object_of
    ((codes "handles", array (items_of handle_value p.handles)) ∷ (codes "map", value_or_null number_value p.map) ∷ (codes "process", number_value p.number) ∷ [])

-- what was seen: the objects by rising ids, and the processes by rising numbers
abbrev pub survey_value : Surveyed → Data
survey_value seen = object_of ((codes "objects", array (items_of object_value seen.objects)) ∷ (codes "processes", array (items_of process_value seen.processes)) ∷ [])

-- the line of a value, and of what was seen
abbrev pub line_of : Data → List ℕ
line_of value = compact_text value ++ codes "\n"

abbrev pub json_of : Surveyed → List ℕ
json_of seen = line_of (survey_value seen)
