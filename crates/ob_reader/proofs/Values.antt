-- The value that a line is.
use Rattle.std.proofs.Common.{◌≡◌, ℕ, Bool, true, false, List, None, Some, IsUtf8, refl, sym}
use Rattle.std.specs.Str.{is_utf8}
use Rattle.std.proofs.lemmas.Str.{IsUtf8-from_is_utf8, is_utf8-from_IsUtf8}
use Rattle.serde_json.specs.Data.{Data}
use Rattle.serde_json.specs.Read.{read}
use Rattle.ob_reader.specs.Reading.{only_if, value_for}

-- bytes that are UTF-8 and a JSON text
pub some_value : (line : List ℕ) (d : Data) → IsUtf8 line → read line ≡ Some d → Some d ≡ value_for line
unfolding value_for
some_value line d u e = rw (is_utf8-from_IsUtf8 line u) (sym e)

-- bytes that are no JSON text, or no UTF-8
pub no_value : (line : List ℕ) → (IsUtf8 line → read line ≡ None) → None ≡ value_for line
unfolding value_for
no_value line h = by_test (is_utf8 line) refl
  where
    by_test : (b : Bool) → is_utf8 line ≡ b → None ≡ only_if b (read line)
    by_test true e = sym (h (IsUtf8-from_is_utf8 line e))
    by_test false e = refl
