-- Bytes in the form of texts are read back.
use Rattle.std.proofs.Common.{◌≡◌, ℕ, ◌+◌, ◌*◌, ◌/◌, ◌%◌, ◌^◌, ◌<◌, Bool, true, false, nat_lt, List, [], ◌∷◌, ◌++◌, Some, refl, ap, ◌∙◌, arith}
use Rattle.std.proofs.lemmas.Bool.Decides.{nat_tests}
use Rattle.json.proofs.Printed.Utf8.{are_ascii}
use Rattle.ob_entries.specs.Lines.{is_itself, hex_digit, escaped, escaped_byte}
use Rattle.ob_reader.specs.Reading.{◌>>=◌, digit_for, byte_for, with_byte, unescaped}
use Rattle.ob_reader.specs.Laws.{AreBytes}
use Rattle.ob_reader.proofs.Unescaped.{itself_first, escape_first}

-- the digits below sixteen are read back, and are ASCII
digit_read : (n : ℕ) → n < 16 → digit_for (hex_digit n) ≡ Some n
digit_read n h = grind (arith, nat_tests)

digit_ascii : (n : ℕ) → n < 16 → nat_lt (hex_digit n) 128 ≡ true
digit_ascii n h = grind (arith, nat_tests)

itself_ascii : (n : ℕ) → is_itself n ≡ true → nat_lt n 128 ≡ true
itself_ascii n h = grind (arith, nat_tests)

-- a byte that doesn't stand for itself is read back from its two digits
byte_read : (byte : ℕ) → byte < 2 ^ 8 → is_itself byte ≡ false → byte_for (hex_digit (byte / 16)) (hex_digit (byte % 16)) ≡ Some byte
byte_read byte h e =
    let high : byte / 16 < 16 = omega arith in
    let low : byte % 16 < 16 = omega arith in
    let same : 16 * (byte / 16) + byte % 16 ≡ byte = omega arith in
    rw (digit_read (byte / 16) high, digit_read (byte % 16) low, same, e) refl

one_read : (byte : ℕ) (rest : List ℕ) (b : Bool) → byte < 2 ^ 8 → is_itself byte ≡ b → unescaped (escaped_byte byte ++ rest) ≡ with_byte byte (unescaped rest)
one_read byte rest true h e = rw e (itself_first byte rest e)
one_read byte rest false h e = rw e (escape_first (hex_digit (byte / 16)) (hex_digit (byte % 16)) rest ∙ ap (λ z. z >>= (λ x. with_byte x (unescaped rest))) (byte_read byte h e))

pub escaped_read : (bytes : List ℕ) → AreBytes bytes → unescaped (escaped bytes) ≡ Some bytes
unfolding unescaped
escaped_read [] h = refl
escaped_read (byte ∷ bytes) h = one_read byte (escaped bytes) (is_itself byte) h.0 refl ∙ ap (with_byte byte) (escaped_read bytes h.1)

one_ascii : (byte : ℕ) (rest : List ℕ) (b : Bool) → byte < 2 ^ 8 → is_itself byte ≡ b → are_ascii rest ≡ true → are_ascii (escaped_byte byte ++ rest) ≡ true
one_ascii byte rest true h e r = rw e (rw (itself_ascii byte e, r) refl)
one_ascii byte rest false h e r =
    let high : byte / 16 < 16 = omega arith in
    let low : byte % 16 < 16 = omega arith in
    rw e (rw (digit_ascii (byte / 16) high, digit_ascii (byte % 16) low, r) refl)

pub escaped_ascii : (bytes : List ℕ) → AreBytes bytes → are_ascii (escaped bytes) ≡ true
escaped_ascii [] h = refl
escaped_ascii (byte ∷ bytes) h = one_ascii byte (escaped bytes) (is_itself byte) h.0 refl (escaped_ascii bytes h.1)
