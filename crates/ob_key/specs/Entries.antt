-- The entries of keys: what arguments say, when entries may be in one table, which keys are there, and
-- where links lead.
--
-- Source: this profile.
use Rattle.std.specs.Prelude.{ℕ, Bool, false, true, ◌&&◌, ◌||◌, not, ◌==◌, nat_eq, if◌then◌else◌, List, [], ◌∷◌, ◌++◌, map, length, drop, Option, None, Some, is_some}
use Rattle.std.specs.Cmp.Lexicographic.{pointwise}
use Rattle.std.specs.List.{list_any, list_all, find, starts_with, slice_split, before_first, after_first}
use Rattle.std.specs.Option.{option_eq, option_and_then}
use Rattle.ob_model.specs.Names.{separator, begins_with_separator}
use Rattle.ob_plain.specs.Arguments.{has_byte, pieces, same_path}
use Rattle.ob_key.specs.declared.entry.KeyEntry.{KeyEntry}

-- the byte before a target, `>`
abbrev pub greater : ℕ
greater = 62

-- the target that a piece of arguments says: what follows its first `>`, where it has one
abbrev pub target_in : List ℕ → Option (List ℕ)
target_in piece = if has_byte greater piece then Some (after_first (λ b. b == greater) piece) else None

-- the entry that a piece of arguments says: a path, up to the first `>`, and the target after it
abbrev pub entry_of : List ℕ → KeyEntry
entry_of piece = record { path = before_first (λ b. b == greater) piece; target = target_in piece }

-- the entries that arguments say
abbrev pub entries_of : List ℕ → List KeyEntry
entries_of args = map entry_of (pieces args)

-- the entry is a link
abbrev pub is_link : KeyEntry → Bool
is_link e = is_some e.target

-- a path: components joined by single backslashes, none of them empty
abbrev pub is_path : List ℕ → Bool
is_path path = list_all (λ component. not (length component == 0)) (slice_split (λ b. b == separator) path)

-- there is a target, and it is empty
abbrev pub is_empty_target : Option (List ℕ) → Bool
is_empty_target None = false
is_empty_target (Some target) = length target == 0

-- the entry may be in a table: its path is one, and its target isn't empty
abbrev pub is_fit : KeyEntry → Bool
is_fit e = is_path e.path && not (is_empty_target e.target)

-- a path continues after another and a backslash
abbrev pub goes_on : List ℕ → List ℕ → Bool
goes_on path front = starts_with nat_eq path front && begins_with_separator (drop (length front) path)

-- the other entry is a link, and this one's path continues after it
abbrev pub is_below_link : KeyEntry → KeyEntry → Bool
is_below_link e other = is_link other && goes_on e.path other.path

-- two entries may be in one table: their paths differ, and neither continues after a link of the other
abbrev pub are_apart : KeyEntry → KeyEntry → Bool
are_apart e other = (not (same_path e.path other.path) && not (is_below_link e other)) && not (is_below_link other e)

-- each entry is apart from each later one
abbrev pub all_apart : List KeyEntry → Bool
all_apart [] = true
all_apart (e ∷ es) = list_all (are_apart e) es && all_apart es

-- entries may be in one table: each is fit, and each two are apart
abbrev pub is_table : List KeyEntry → Bool
is_table entries = list_all is_fit entries && all_apart entries

-- a key of this path is there by the entry: the path is the entry's, which is no link, or a front of it that ends
-- before a backslash
abbrev pub makes : KeyEntry → List ℕ → Bool
makes e path = (not (is_link e) && same_path e.path path) || goes_on e.path path

-- a key of this path is there
abbrev pub is_there : List KeyEntry → List ℕ → Bool
is_there entries path = list_any (λ e. makes e path) entries

-- the entry is a link of this path
abbrev pub is_link_of : List ℕ → KeyEntry → Bool
is_link_of path e = is_link e && same_path e.path path

-- the target of the link of this path, where there is one
abbrev pub target_of : List KeyEntry → List ℕ → Option (List ℕ)
target_of entries path = option_and_then (λ e. e.target) (find (is_link_of path) entries)

-- the path of a name below a key: the key's path and the name, with a backslash between them, or the name
-- alone where the key's path is empty
abbrev pub path_below : List ℕ → List ℕ → List ℕ
path_below path name = if length path == 0 then name else path ++ separator ∷ name

-- what never changes of a key: the entries below its root, and its own path
pub record KeyPlace : Type 0 where
  pub entries : List KeyEntry
  pub path : List ℕ

-- two entries are the same, byte by byte
abbrev pub same_entry : KeyEntry → KeyEntry → Bool
same_entry a b = same_path a.path b.path && option_eq same_path a.target b.target

-- two tables have the same entries in the same order
abbrev pub same_tables : List KeyEntry → List KeyEntry → Bool
same_tables a b = pointwise same_entry a b
