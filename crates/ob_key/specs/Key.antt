-- The procedures of keys.
--
-- Sources: Windows Internals, Object Manager (object types and their methods), for the type's name and that a
-- key parses; the arguments, the paths, the links and the refusals' numbers are this profile.
use Rattle.std.specs.Prelude.{ℕ, ◌-◌, Bool, ◌&&◌, not, true, if◌then◌else◌, nat_le, List, [], ◌∷◌, Option, None, Some, codes, length}
use Rattle.ob_model.specs.Names.{separator, next_component, after_component, is_profile_text, longest_name, substituted}
use Rattle.ob_model.specs.Procedures.{Procedures, ParseAnswer, Itself, Front, Reparse, Refused}
use Rattle.ob_plain.specs.Arguments.{is_readable, same_path, without_separator}
use Rattle.ob_plain.specs.Handles.{unopened, one_more}
use Rattle.ob_key.specs.Entries.{KeyPlace, entries_of, is_table, is_there, target_of, path_below, same_tables}
use Rattle.ob_key.specs.declared.entry.KeyEntry.{KeyEntry}
use Rattle.ob_key.specs.declared.key.KeySet.{KeySet}
use Rattle.ob_key.specs.declared.key.KeyKind.{KeyKind}
use Rattle.ob_key.specs.declared.key.KeyKind.TheVariants.{Key}

-- the name of the kind's type
abbrev pub name_of : KeyKind → List ℕ
name_of Key = codes "Key"

-- two kinds are one
abbrev pub same_key_kind : KeyKind → KeyKind → Bool
same_key_kind Key b = elim b [ Key ↦ true ]

-- two faces are of one key: their tables have the same entries, and their paths are the same
abbrev pub same_key_face : KeyPlace → KeyPlace → Bool
same_key_face a b = same_path a.path b.path && same_tables a.entries b.entries

-- making refuses arguments that can't be read, and entries that may not be in one table
abbrev pub refuses_arguments : List ℕ → Option ℕ
refuses_arguments args = if is_readable args && is_table (entries_of args) then None else Some 1

-- what a link answers to the rest after it: the name that its target and the rest make together
abbrev pub link_answer : List ℕ → List ℕ → ParseAnswer KeyPlace ℕ
link_answer target rest =
    if not (is_profile_text rest) then Refused 3
    else (if nat_le (length (substituted target rest)) longest_name then Reparse (substituted target rest) else Refused 4)

-- what is answered where a rest leads to this path, with so many bytes used, and that rest after them: the link
-- there, or else the key there
abbrev pub answer_at : List KeyEntry → Option (List ℕ) → List ℕ → ℕ → List ℕ → ParseAnswer KeyPlace ℕ
answer_at entries (Some target) path used behind = link_answer target behind
answer_at entries None path used behind =
    if is_there entries path then Front used (record { entries = entries; path = path }) unopened else Refused 3

-- what a key answers to a rest that begins with this component, which may be empty, and goes on so
abbrev pub answer_to : KeyPlace → ℕ → List ℕ → List ℕ → ParseAnswer KeyPlace ℕ
answer_to face length_of_rest [] behind = Refused 3
answer_to face length_of_rest (b ∷ bs) behind =
    answer_at face.entries (target_of face.entries (path_below face.path (b ∷ bs))) (path_below face.path (b ∷ bs)) (length_of_rest - length behind) behind

-- what a key answers to a rest: itself, or by the rest's first component
abbrev pub key_answer : KeyPlace → List ℕ → ParseAnswer KeyPlace ℕ
key_answer face [] = Itself
key_answer face (b ∷ bs) =
    answer_to face (length (b ∷ bs)) (next_component (separator ∷ without_separator (b ∷ bs))) (after_component (separator ∷ without_separator (b ∷ bs)))

-- what each procedure means; the inner value is the number of handles
abbrev pub key_procedures : Procedures KeyKind KeySet KeyPlace ℕ
key_procedures = record {
  type_name = name_of;
  kind_of = λ _. Key;
  same_kind = same_key_kind;
  parses = λ _. true;
  same_face = same_key_face;
  refuses_to_make = λ _ args. refuses_arguments args;
  made = λ _ args. (record { entries = entries_of args; path = [] }, unopened);
  parsed = key_answer;
  refuses_to_open = λ _ _ _. None;
  opened = λ set handles _. (set, one_more handles);
  closed = λ set _ _ system_left. (set, system_left);
  deleted = λ set _. set;
}
