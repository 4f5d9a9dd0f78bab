-- The text of a value without floats, whose strings are ASCII and whose keys rise, is read back.
use Rattle.std.proofs.Common.{◌≡◌, ℕ, zero, suc, ◌^◌, ◌<◌, ◌≤◌, Bool, true, false, ◌&&◌, List, [], ◌∷◌, Some, option_map, option_and_then, Ordering, Less, Equal, Greater, nat_cmp, decimal, IsUtf8, refl, sym, ap, ◌∙◌, arith, append-nil}
use Rattle.std.specs.Prelude.{⊤}
use Rattle.std.specs.Cmp.Lexicographic.{slice_cmp}
use Rattle.std.proofs.lemmas.Bool.{and_parts}
use Rattle.std.proofs.lemmas.Fmt.{IsAscii-decimal}
use Rattle.std.proofs.lemmas.Str.{IsUtf8-append, IsUtf8-from_ascii, IsUtf8-nil, is_utf8-from_IsUtf8}
use Rattle.json.specs.Json as json
use Rattle.json.specs.Lex.{tokens}
use Rattle.json.specs.Print.{quoted}
use Rattle.json.specs.Tree as tree
use Rattle.json.proofs.Printed.Decimals.{IsNumber-decimal}
use Rattle.json.proofs.Printed.Tokens.{tokens-print}
use Rattle.json.proofs.Printed.Trees.{value-json_tokens, ArePrintable-json_tokens}
use Rattle.json.proofs.Printed.Utf8.{are_ascii, IsUtf8-are_ascii, IsUtf8-quoted, IsUtf8-boolean}
use Rattle.serde_json.specs.Data.{unsigned, Data, null, boolean, number, string, array, object, Items, no_items, item, Members, no_members, member, put}
use Rattle.serde_json.specs.Read.{of_json, of_items, of_members, max_depth}
use Rattle.serde_json.specs.Written.{outline, items_outline, members_outline, comma_if, compact_text, items_text, members_text}
use Rattle.serde_json.proofs.Numbers.{number_of-decimal}
use Rattle.serde_json.proofs.Texts.{print-outline}
use Rattle.ob_reader.specs.Reading.{value_for}

-- whether a key is greater than another
abbrev pub is_greater : Ordering → Bool
is_greater Less = false
is_greater Equal = false
is_greater Greater = true

-- whether a key is above all of these members'
abbrev pub is_above : List ℕ → Members → Bool
is_above k no_members = true
is_above k (member l d ms) = is_greater (slice_cmp nat_cmp k l) && is_above k ms

-- the members with one more behind them, and with others
abbrev pub push : List ℕ → Data → Members → Members
push k d no_members = member k d no_members
push k d (member l e ms) = member l e (push k d ms)

abbrev pub join : Members → Members → Members
join no_members ms = ms
join (member l e before) ms = member l e (join before ms)

-- whether the keys are ASCII, and rise behind these
abbrev pub keys_rise : Members → Members → Bool
keys_rise before no_members = true
keys_rise before (member k d ms) = (are_ascii k && is_above k before) && keys_rise (push k d before) ms

abbrev mutual
  -- a value that nests so deep at most
  pub IsPlain : ℕ → Data → Type 0
  IsPlain n null = ⊤
  IsPlain n (boolean b) = ⊤
  IsPlain n (number x) = (m : ℕ) × (x ≡ unsigned m) × (m < 2 ^ 64)
  IsPlain n (string s) = are_ascii s ≡ true
  IsPlain zero (array ds) = ⊥
  IsPlain zero (object ms) = ⊥
  IsPlain (suc n) (array ds) = ItemsArePlain n ds
  IsPlain (suc n) (object ms) = (keys_rise no_members ms ≡ true) × MembersArePlain n ms

  pub ItemsArePlain : ℕ → Items → Type 0
  ItemsArePlain n no_items = ⊤
  ItemsArePlain n (item d ds) = IsPlain n d × ItemsArePlain n ds

  pub MembersArePlain : ℕ → Members → Type 0
  MembersArePlain n no_members = ⊤
  MembersArePlain n (member k d ms) = IsPlain n d × MembersArePlain n ms

from_greater : (o : Ordering) → is_greater o ≡ true → o ≡ Greater
from_greater Less h = absurd (cc)
from_greater Equal h = absurd (cc)
from_greater Greater h = refl

put_above : (k : List ℕ) (d : Data) (ms : Members) → is_above k ms ≡ true → put k d ms ≡ push k d ms
put_above k d no_members h = refl
put_above k d (member l e ms) h = let p = and_parts _ _ h in rw (from_greater (slice_cmp nat_cmp k l) p.0) (ap (member l e) (put_above k d ms p.1))

join-push : (before : Members) (k : List ℕ) (d : Data) (ms : Members) → join (push k d before) ms ≡ join before (member k d ms)
join-push no_members k d ms = refl
join-push (member l e before) k d ms = ap (member l e) (join-push before k d ms)

join-none : (before : Members) → join before no_members ≡ before
join-none no_members = refl
join-none (member l e before) = ap (member l e) (join-none before)

mutual
  of_plain : (n : ℕ) (d : Data) → IsPlain n d → of_json (outline d) ≡ Some d
  of_plain n null h = refl
  of_plain n (boolean b) h = refl
  of_plain n (number x) h = rw h.1 (ap (option_map number) (number_of-decimal h.0 h.2))
  of_plain n (string s) h = refl
  of_plain zero (array ds) h = absurd h
  of_plain zero (object ms) h = absurd h
  of_plain (suc n) (array ds) h = ap (option_map array) (of_plain_items n ds h)
  of_plain (suc n) (object ms) h = ap (option_map object) (of_plain_members n no_members ms h.0 h.1)

  of_plain_items : (n : ℕ) (ds : Items) → ItemsArePlain n ds → of_items (items_outline ds) ≡ Some ds
  of_plain_items n no_items h = refl
  of_plain_items n (item d ds) h = rw (of_plain n d h.0) (ap (option_map (item d)) (of_plain_items n ds h.1))

  of_plain_members : (n : ℕ) (found ms : Members) → keys_rise found ms ≡ true → MembersArePlain n ms → of_members (members_outline ms) found ≡ Some (join found ms)
  of_plain_members n found no_members r h = ap Some (sym (join-none found))
  of_plain_members n found (member k d ms) r h =
      let p = and_parts _ _ r in
      let q = and_parts _ _ p.0 in
      rw (of_plain n d h.0, put_above k d found q.1) (of_plain_members n (push k d found) ms p.1 h.1 ∙ ap Some (join-push found k d ms))

mutual
  plain_numbers : (n : ℕ) (d : Data) → IsPlain n d → tree.HasNumbers (outline d)
  plain_numbers n null h = tt
  plain_numbers n (boolean b) h = tt
  plain_numbers n (number x) h = rw h.1 (IsNumber-decimal h.0 h.2)
  plain_numbers n (string s) h = tt
  plain_numbers zero (array ds) h = absurd h
  plain_numbers zero (object ms) h = absurd h
  plain_numbers (suc n) (array ds) h = plain_items_numbers n ds h
  plain_numbers (suc n) (object ms) h = plain_members_numbers n ms h.1

  plain_items_numbers : (n : ℕ) (ds : Items) → ItemsArePlain n ds → tree.ItemsHaveNumbers (items_outline ds)
  plain_items_numbers n no_items h = tt
  plain_items_numbers n (item d ds) h = (plain_numbers n d h.0, plain_items_numbers n ds h.1)

  plain_members_numbers : (n : ℕ) (ms : Members) → MembersArePlain n ms → tree.MembersHaveNumbers (members_outline ms)
  plain_members_numbers n no_members h = tt
  plain_members_numbers n (member k d ms) h = (plain_numbers n d h.0, plain_members_numbers n ms h.1)

mutual
  plain_depth : (n : ℕ) (d : Data) → IsPlain n d → tree.depth (outline d) ≤ n
  plain_depth n null h = omega arith
  plain_depth n (boolean b) h = omega arith
  plain_depth n (number x) h = omega arith
  plain_depth n (string s) h = omega arith
  plain_depth zero (array ds) h = absurd h
  plain_depth zero (object ms) h = absurd h
  plain_depth (suc n) (array ds) h = omega (arith, plain_items_depth n ds h)
  plain_depth (suc n) (object ms) h = omega (arith, plain_members_depth n ms h.1)

  plain_items_depth : (n : ℕ) (ds : Items) → ItemsArePlain n ds → tree.items_depth (items_outline ds) ≤ n
  plain_items_depth n no_items h = omega arith
  plain_items_depth n (item d ds) h = omega (arith, plain_depth n d h.0, plain_items_depth n ds h.1)

  plain_members_depth : (n : ℕ) (ms : Members) → MembersArePlain n ms → tree.members_depth (members_outline ms) ≤ n
  plain_members_depth n no_members h = omega arith
  plain_members_depth n (member k d ms) h = omega (arith, plain_depth n d h.0, plain_members_depth n ms h.1)

comma_utf8 : (later : Bool) → IsUtf8 (comma_if later)
comma_utf8 true = IsUtf8-are_ascii (44 ∷ []) refl
comma_utf8 false = IsUtf8-nil

mutual
  plain_utf8 : (n : ℕ) (d : Data) → IsPlain n d → IsUtf8 (compact_text d)
  plain_utf8 n null h = IsUtf8-are_ascii _ refl
  plain_utf8 n (boolean b) h = IsUtf8-boolean b
  plain_utf8 n (number x) h = rw h.1 (IsUtf8-from_ascii (decimal h.0) (IsAscii-decimal h.0 h.2))
  plain_utf8 n (string s) h = IsUtf8-quoted s (IsUtf8-are_ascii s h)
  plain_utf8 zero (array ds) h = absurd h
  plain_utf8 zero (object ms) h = absurd h
  plain_utf8 (suc n) (array ds) h = IsUtf8-append (91 ∷ []) _ (IsUtf8-are_ascii (91 ∷ []) refl) (plain_items_utf8 n false ds h)
  plain_utf8 (suc n) (object ms) h = IsUtf8-append (123 ∷ []) _ (IsUtf8-are_ascii (123 ∷ []) refl) (plain_members_utf8 n false no_members ms h.0 h.1)

  plain_items_utf8 : (n : ℕ) (later : Bool) (ds : Items) → ItemsArePlain n ds → IsUtf8 (items_text later ds)
  plain_items_utf8 n later no_items h = IsUtf8-are_ascii (93 ∷ []) refl
  plain_items_utf8 n later (item d ds) h = IsUtf8-append (comma_if later) _ (comma_utf8 later) (IsUtf8-append (compact_text d) _ (plain_utf8 n d h.0) (plain_items_utf8 n true ds h.1))

  plain_members_utf8 : (n : ℕ) (later : Bool) (before ms : Members) → keys_rise before ms ≡ true → MembersArePlain n ms → IsUtf8 (members_text later ms)
  plain_members_utf8 n later before no_members r h = IsUtf8-are_ascii (125 ∷ []) refl
  plain_members_utf8 n later before (member k d ms) r h =
      let p = and_parts _ _ r in
      let q = and_parts _ _ p.0 in
      IsUtf8-append (comma_if later) _ (comma_utf8 later)
      (IsUtf8-append (quoted k) _ (IsUtf8-quoted k (IsUtf8-are_ascii k q.0))
      (IsUtf8-append (58 ∷ []) _ (IsUtf8-are_ascii (58 ∷ []) refl)
      (IsUtf8-append (compact_text d) _ (plain_utf8 n d h.0) (plain_members_utf8 n true (push k d before) ms p.1 h.1))))

-- a plain value's text is read as that value
pub plain_read : (d : Data) → IsPlain 5 d → value_for (compact_text d) ≡ Some d
unfolding value_for
plain_read d h =
    let j = outline d in
    let shallow : tree.depth j ≤ max_depth = omega (arith, plain_depth 5 d h) in
    let same : tokens (compact_text d) ≡ tree.json_tokens j = ap tokens (sym (print-outline d)) ∙ tokens-print (tree.json_tokens j) (ArePrintable-json_tokens j (plain_numbers 5 d h)) in
    let parsed : json.value max_depth (tokens (compact_text d)) ≡ Some (j, []) = ap (json.value max_depth) (same ∙ sym (append-nil _)) ∙ value-json_tokens j max_depth [] shallow in
    rw (is_utf8-from_IsUtf8 (compact_text d) (plain_utf8 5 d h))
    (ap (λ o. option_and_then of_json (option_and_then (λ p. json.if_last p.0 p.1) o)) parsed ∙ of_plain 5 d h)
