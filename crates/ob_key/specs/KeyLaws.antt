-- The laws of keys.
use Rattle.std.proofs.Common.{◌≡◌, ◌≢◌, ℕ, ◌+◌, ◌-◌, ◌<◌, ◌≤◌, Bool, true, false, ◌&&◌, not, nat_le, if◌then◌else◌, List, [], ◌∷◌, Option, None, Some, length, refl, arith, length-drop}
use Rattle.std.proofs.lemmas.Bool.{and_parts}
use Rattle.std.specs.Cmp.Lexicographic.{bytes_decides}
use Rattle.ob_model.specs.Names.{separator, begins_with_separator, next_component, after_component, is_profile_text, longest_name, substituted}
use Rattle.ob_model.specs.Procedures.{ParseAnswer, Itself, Front, Reparse, Refused, FrontIsUsed, ItselfIsAtEnd, ParsedIsIdle, OwnFaceIsSame, SameFacesAnswerAlike}
use Rattle.ob_plain.specs.Arguments.{same_path, without_separator}
use Rattle.ob_plain.specs.Handles.{unopened, IsIdle}
use Rattle.ob_key.specs.Entries.{KeyPlace, is_there, target_of, path_below, same_tables}
use Rattle.ob_key.specs.Equality.{tables_are_one, table_is_same}
use Rattle.ob_key.specs.Key.{key_procedures, key_answer, answer_to, answer_at}
use Rattle.ob_key.specs.declared.entry.KeyEntry.{KeyEntry}

pub key_own_face : OwnFaceIsSame key_procedures
key_own_face face =
    let path = (bytes_decides face.path face.path).1 refl in
    let table = table_is_same face.entries in
    λ i. path i && table i

pub key_same_answers : SameFacesAnswerAlike key_procedures
key_same_answers a b rest e =
    let same = and_parts (same_path a.path b.path) (same_tables a.entries b.entries) e in
    let paths : a.path ≡ b.path = (bytes_decides a.path b.path).0 same.0 in
    let tables : a.entries ≡ b.entries = tables_are_one a.entries b.entries same.1 in
    λ i. key_answer (record { entries = tables i; path = paths i }) rest

-- where a link answers with a front, that is false
no_front : (ascii short : Bool) (text : List ℕ) (used : ℕ) (next : KeyPlace) (inner : ℕ)
    → (if not ascii then Refused 3 else (if short then Reparse text else Refused 4)) ≢ Front used next inner
no_front true true text used next inner e = cc
no_front true false text used next inner e = cc
no_front false short text used next inner e = cc

no_itself : (ascii short : Bool) (text : List ℕ) → ◌≢◌ {A = ParseAnswer KeyPlace ℕ} (if not ascii then Refused 3 else (if short then Reparse text else Refused 4)) Itself
no_itself true true text e = cc
no_itself true false text e = cc
no_itself false short text e = cc

-- where a key answers with a front, the bytes that it uses are those that the answer was made with
front_at : (there : Bool) (face next : KeyPlace) (n used : ℕ) (inner : ℕ) → (if there then Front n face unopened else Refused 3) ≡ Front used next inner → (used ≡ n) × (inner ≡ unopened)
front_at true face next n used inner e = (cc, cc)
front_at false face next n used inner e = cc

itself_at : (there : Bool) (face : KeyPlace) (n : ℕ) → (if there then Front n face unopened else Refused 3) ≢ Itself
itself_at true face n e = cc
itself_at false face n e = cc

front_used : (entries : List KeyEntry) (target : Option (List ℕ)) (path behind : List ℕ) (n used : ℕ) (next : KeyPlace) (inner : ℕ)
    → answer_at entries target path n behind ≡ Front used next inner → (used ≡ n) × (inner ≡ unopened)
front_used entries (Some target) path behind n used next inner e =
    absurd (no_front (is_profile_text behind) (nat_le (length (substituted target behind)) longest_name) (substituted target behind) used next inner e)
front_used entries None path behind n used next inner e = front_at (is_there entries path) _ next n used inner e

not_itself : (entries : List KeyEntry) (target : Option (List ℕ)) (path behind : List ℕ) (n : ℕ) → answer_at entries target path n behind ≢ Itself
not_itself entries (Some target) path behind n e = no_itself (is_profile_text behind) (nat_le (length (substituted target behind)) longest_name) (substituted target behind) e
not_itself entries None path behind n e = itself_at (is_there entries path) _ n e

-- what is answered to a rest that isn't empty, by its first component
record IsFront (whole : ℕ) (component behind : List ℕ) (used inner : ℕ) : Type 0 where
  pub some_bytes : 0 < length component
  pub all_used : used ≡ whole - length behind
  pub idle : inner ≡ unopened

front_of : (face next : KeyPlace) (whole used : ℕ) (component behind : List ℕ) (inner : ℕ) → answer_to face whole component behind ≡ Front used next inner → IsFront whole component behind used inner
front_of face next whole used [] behind inner e = cc
front_of face next whole used (c ∷ cs) behind inner e =
    let is = front_used face.entries (target_of face.entries (path_below face.path (c ∷ cs))) (path_below face.path (c ∷ cs)) behind (whole - length behind) used next inner e in
    record { some_bytes = omega arith; all_used = is.0; idle = is.1 }

itself_of : (face : KeyPlace) (whole : ℕ) (component behind : List ℕ) → answer_to face whole component behind ≢ Itself
itself_of face whole [] behind e = cc
itself_of face whole (c ∷ cs) behind e = not_itself face.entries (target_of face.entries (path_below face.path (c ∷ cs))) (path_below face.path (c ∷ cs)) behind (whole - length behind) e

-- what follows a separator is no longer
behind_shorter : (begins : Bool) (b : ℕ) (bs : List ℕ) → length (if begins then bs else b ∷ bs) ≤ length (b ∷ bs)
behind_shorter true b bs = omega arith
behind_shorter false b bs = omega arith

-- what follows a component, which has a byte, is shorter than the rest
used_some : (rest text : List ℕ) → rest ≢ [] → length text ≤ length rest → 0 < length (next_component (separator ∷ text)) → length (after_component (separator ∷ text)) < length rest
used_some [] text n l some = absurd (n refl)
used_some (b ∷ bs) text n l some =
    let left = length-drop (1 + length (next_component (separator ∷ text))) (separator ∷ text) in
    omega (arith, l, some, left)

pub key_front : FrontIsUsed key_procedures
key_front face next [] used inner e = cc
key_front face next (b ∷ bs) used inner e =
    let text = without_separator (b ∷ bs) in
    let is = front_of face next (length (b ∷ bs)) used (next_component (separator ∷ text)) (after_component (separator ∷ text)) inner e in
    let used_is = is.all_used in
    record {
      within = omega (arith, used_is);
      some_bytes = λ n.
          let some = used_some (b ∷ bs) text n (behind_shorter (begins_with_separator (b ∷ bs)) b bs) is.some_bytes in
          omega (arith, used_is, some);
      onward = λ l. refl;
    }

pub key_parsed_idle : ParsedIsIdle key_procedures IsIdle
key_parsed_idle face next [] used inner e = cc
key_parsed_idle face next (b ∷ bs) used inner e =
    let text = without_separator (b ∷ bs) in
    let is = front_of face next (length (b ∷ bs)) used (next_component (separator ∷ text)) (after_component (separator ∷ text)) inner e in
    is.idle

pub key_itself : ItselfIsAtEnd key_procedures
key_itself face [] e = refl
key_itself face (b ∷ bs) e =
    let text = without_separator (b ∷ bs) in
    absurd (itself_of face (length (b ∷ bs)) (next_component (separator ∷ text)) (after_component (separator ∷ text)) e)
