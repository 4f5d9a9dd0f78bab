-- The text of a tree.
--
-- Source: this profile.
use Rattle.std.specs.Prelude.{ℕ, zero, suc, ◌+◌, ◌-◌, ◌==◌, nat_lt, nat_le, ◌||◌, if◌then◌else◌, Bool, List, [], ◌∷◌, ◌++◌, length, map, filter, count_by, replicate, codes, Option}
use Rattle.std.specs.List.{find, filter_map}
use Rattle.std.specs.Option.{is_none, option_and_then, option_map_or}
use Rattle.std.specs.Fmt.{decimal}
use Rattle.ob_model.specs.Names.{separator}
use Rattle.ob_model.specs.State.{root_id}
use Rattle.ob_model.specs.declared.state.Held.{Held}
use Rattle.ob_model.specs.declared.state.Row.{Row}
use Rattle.ob_tree.specs.declared.style.Style.{Style}
use Rattle.ob_tree.specs.declared.style.Style.TheVariants.{Boxes, Ascii}
use Rattle.ob_tree.specs.declared.style.Branch.{Branch}
use Rattle.ob_tree.specs.declared.style.Branch.TheVariants.{Top, Middle, Last}
use Rattle.ob_tree.specs.declared.survey.Seen.{Seen}
use Rattle.ob_tree.specs.declared.survey.SeenProcess.{SeenProcess}
use Rattle.ob_tree.specs.declared.lines.Item.{Item}
use Rattle.ob_tree.specs.Index.{Named, in_order}
use Rattle.ob_tree.specs.Surveyed.{Surveyed}

-- what precedes the name of a line: `├── `, `└── ` or their like in ASCII
abbrev pub connector_text : Style → Branch → List ℕ
connector_text style Top = []
connector_text Boxes Middle = 0xE2 ∷ 0x94 ∷ 0x9C ∷ 0xE2 ∷ 0x94 ∷ 0x80 ∷ 0xE2 ∷ 0x94 ∷ 0x80 ∷ codes " "
connector_text Boxes Last = 0xE2 ∷ 0x94 ∷ 0x94 ∷ 0xE2 ∷ 0x94 ∷ 0x80 ∷ 0xE2 ∷ 0x94 ∷ 0x80 ∷ codes " "
connector_text Ascii Middle = codes "|-- "
connector_text Ascii Last = codes "`-- "

-- what precedes each line below it: `│   `, its like in ASCII, or spaces
abbrev pub bar_text : Style → Branch → List ℕ
bar_text style Top = []
bar_text Boxes Middle = 0xE2 ∷ 0x94 ∷ 0x82 ∷ codes "   "
bar_text Ascii Middle = codes "|   "
bar_text style Last = codes "    "

-- how many characters a text has: bytes that are no continuation of one
abbrev pub is_first_byte : ℕ → Bool
is_first_byte byte = nat_lt byte 0x80 || nat_le 0xC0 byte

abbrev pub columns : List ℕ → ℕ
columns text = count_by is_first_byte text

-- a text with spaces up to 40 characters
abbrev pub padded : List ℕ → List ℕ
padded text = text ++ replicate (40 - columns text) 0x20

-- the objects without a name, by rising ids; the first is the root
abbrev pub unnamed : List Seen → List ℕ
unnamed objects = map (λ x. x.id) (filter (λ x. is_none x.row) objects)

-- the entries of all directories
abbrev pub entry_of : Row → Named
entry_of r = record { directory = r.directory; name = r.name; object = r.object }

abbrev pub entries : List Seen → List Named
entries objects = in_order (map entry_of (filter_map (λ x. x.row) objects))

-- the object of an id, and the row that names it
abbrev pub seen_at : List Seen → ℕ → Option Seen
seen_at objects o = find (λ x. x.id == o) objects

abbrev pub row_at : List Seen → ℕ → Option Row
row_at objects o = option_and_then (λ x. x.row) (seen_at objects o)

-- an object without a name has its number among those: the root has 0, and the next one 1
abbrev pub unnamed_text : List Seen → ℕ → List ℕ
unnamed_text objects o = codes "(no name) " ++ decimal (count_by (λ x. nat_lt x o) (unnamed objects))

-- what a path begins with: nothing at the root
abbrev pub top_text : List Seen → ℕ → List ℕ
top_text objects o = if o == root_id then [] else unnamed_text objects o

-- the path of an object, and of the root nothing; the way up has at most this many names
abbrev pub path_below : ℕ → List Seen → ℕ → List ℕ
path_below zero objects o = top_text objects o
path_below (suc n) objects o = option_map_or (λ r. path_below n objects r.directory ++ separator ∷ r.name) (row_at objects o) (top_text objects o)

-- the path of an object; a directory has a lesser id than its entries, so that the id bounds the way up
abbrev pub path_text : List Seen → ℕ → List ℕ
path_text objects o = if o == root_id then codes "\\" else path_below o objects o

-- the name of an object in its line
abbrev pub label_text : List Seen → ℕ → List ℕ
label_text objects o = option_map_or (λ r. r.name) (row_at objects o) (if o == root_id then codes "\\" else unnamed_text objects o)

-- what follows the name of an object
abbrev pub flag_text : List ℕ → Bool → List ℕ
flag_text word holds = if holds then word else []

abbrev pub count_text : List ℕ → ℕ → List ℕ
count_text word count = if count == 0 then [] else word ++ decimal count

abbrev pub place_text : List Seen → List ℕ → Option ℕ → List ℕ
place_text objects word place = option_map_or (λ o. word ++ path_text objects o) place []

abbrev pub target_text : Option (List ℕ) → List ℕ
target_text target = option_map_or (λ text. codes " -> " ++ text) target []

abbrev pub details_text : List Seen → Seen → List ℕ
details_text objects x =
    x.type_name ++ flag_text (codes " permanent") x.permanent ++ flag_text (codes " exclusive") x.exclusive ++ count_text (codes " handles ") x.handles
    ++ count_text (codes " pinned ") x.pins ++ place_text objects (codes " shadow ") x.shadow ++ target_text x.target

-- a line: an object, after what precedes its name
abbrev pub line_text : Style → List Seen → Item → List ℕ
line_text style objects item =
    padded (item.indent ++ connector_text style item.branch ++ label_text objects item.object) ++ codes " "
    ++ option_map_or (details_text objects) (seen_at objects item.object) [] ++ codes "\n"

-- the entries of a directory as they are to be shown
abbrev pub middle_item : List ℕ → ℕ → Item
middle_item indent o = record { indent = indent; branch = Middle; object = o }

abbrev pub last_item : List ℕ → ℕ → Item
last_item indent o = record { indent = indent; branch = Last; object = o }

abbrev pub items_of : List ℕ → List Named → List Item
items_of indent [] = []
items_of indent (e ∷ []) = last_item indent e.object ∷ []
items_of indent (e ∷ f ∷ es) = middle_item indent e.object ∷ items_of indent (f ∷ es)

abbrev pub items_below : Style → List Named → Item → List Item
items_below style es item = items_of (item.indent ++ bar_text style item.branch) (filter (λ e. e.directory == item.object) es)

-- the lines of these items, each with those of its entries after it; no more lines than objects
abbrev pub lines_text : Style → List Seen → List Named → ℕ → List Item → List ℕ
lines_text style objects es zero items = []
lines_text style objects es (suc n) [] = []
lines_text style objects es (suc n) (item ∷ items) = line_text style objects item ++ lines_text style objects es n (items_below style es item ++ items)

abbrev pub top_item : ℕ → Item
top_item o = record { indent = []; branch = Top; object = o }

abbrev pub objects_text : Style → List Seen → List ℕ
objects_text style objects = lines_text style objects (entries objects) (length objects) (map top_item (unnamed objects))

-- the handles of a process, numbered from this number on
abbrev pub handle_text : List Seen → ℕ → Held → List ℕ
handle_text objects number h = codes "    " ++ decimal number ++ codes " " ++ path_text objects h.object ++ flag_text (codes " inherit") h.inherit ++ codes "\n"

abbrev pub handles_text : List Seen → ℕ → List Held → List ℕ
handles_text objects number [] = []
handles_text objects number (h ∷ hs) = handle_text objects number h ++ handles_text objects (number + 1) hs

abbrev pub process_text : List Seen → SeenProcess → List ℕ
process_text objects p = codes "process " ++ decimal p.number ++ place_text objects (codes " map ") p.map ++ codes "\n" ++ handles_text objects 1 p.handles

abbrev pub processes_text : List Seen → List SeenProcess → List ℕ
processes_text objects [] = []
processes_text objects (p ∷ ps) = process_text objects p ++ processes_text objects ps

-- the tree of what was seen: its objects, and then its processes
abbrev pub tree_of : Style → Surveyed → List ℕ
tree_of style seen = objects_text style seen.objects ++ processes_text seen.objects seen.processes
