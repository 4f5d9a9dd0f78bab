-- Rooms and modes of a list, each with one reading.
use Rattle.std.proofs.Common.{◌≡◌, ◌≢◌, ℕ, ◌<◌, ◌≤◌, ◌^◌, Bool, true, List, [], ◌∷◌, ◌++◌, length, get_or, refl, sym, ◌∙◌, codes, arith, zero, suc, Some, None, Result, Ok, Err}
use Rattle.std.specs.Fmt.{decimal}
use Rattle.std.specs.Borrow.{Bor}
use Rattle.std.specs.Option.{IfSome, IfNone}
use Rattle.std.specs.Result.{MatchResult, result_ok}
use Rattle.std.specs.Str.{IsUtf8, bytes_eq}
use Rattle.std.specs.Str.Parse.{AllDigits, ParsesUnsigned, digits_value}
use Rattle.std.proofs.lemmas.Fmt.{decimal_is_IsNumeral, decimal_injective, first_decimal, decimal_nonempty, decimal-digits_value, decimal_digit, IsAscii-decimal, parse-decimal}
use Rattle.std.proofs.lemmas.Str.Parse.{IsNumeralModel, numerals_by_value, tells_digits, digit_at, parse_plain}
use Rattle.std.proofs.lemmas.Str.{IsUtf8-from_ascii}
use Rattle.std.proofs.lemmas.Slice.Eq.{bytes_eq-Decides}
use Rattle.ob_parts.specs.declared.page.PageMode.{PageMode}
use Rattle.ob_parts.specs.declared.page.PageMode.TheVariants.{First, Next, FirstSingle, NextSingle}
use Rattle.ob_parts.specs.Text.{Lacks}
use Rattle.ob_parts.specs.Pages.{IsRoom, mode_text}
use Rattle.ob_parts.specs.Parts.{BeginsWithRoom}
use Rattle.ob_parts.proofs.Cuts.{lacks_no_cut}
use Rattle.ob_parts.proofs.Readings.{differ, moved, spaced, spaced_alike}

-- digits have no space, so a room has none
digits_lack : (cs : List ℕ) → AllDigits 10 cs → Lacks 0x20 cs
digits_lack [] q = tt
digits_lack (c ∷ cs) q = ((λ (h : c ≡ 0x20). let bad = rw h at q.0 in omega (arith, bad)), digits_lack cs q.1)

pub room_lacks : (spelled : List ℕ) (room : ℕ) → IsRoom spelled room → Lacks 0x20 spelled
room_lacks spelled room (e, small) =
    moved (Lacks 0x20) spelled (decimal room) e (digits_lack (decimal room) (decimal_is_IsNumeral room (omega (arith, small))).0.1)

-- bytes are one room at most
room_same : (spelled : List ℕ) (a b : ℕ) → IsRoom spelled a → IsRoom spelled b → a ≡ b
room_same spelled a b (e, small) (f, less) = decimal_injective a b (omega (arith, small)) (omega (arith, less)) (sym e ∙ f)

-- bytes that are cut at their first space begin with no other room
pub room_parts : (bytes spelled rest : List ℕ) (room : ℕ) (r : List ℕ) → bytes ≡ spelled ++ (0x20 ∷ rest) → Lacks 0x20 spelled
    → BeginsWithRoom bytes room r → IsRoom spelled room × (rest ≡ r)
room_parts bytes spelled rest room r e l (other, is, f) =
    let same : (spelled ≡ other) × (rest ≡ r) = spaced_alike bytes spelled rest other r l (room_lacks other room is) e f in
    (moved (λ x. IsRoom x room) spelled other same.0 is, same.1)

pub room_uncut : (bytes : List ℕ) (room : ℕ) (r : List ℕ) → Lacks 0x20 bytes → ¬ BeginsWithRoom bytes room r
room_uncut bytes room r l (spelled, is, e) = lacks_no_cut 0x20 bytes spelled r l (spaced bytes spelled r e)

pub room_alike : (bytes : List ℕ) (a : ℕ) (r : List ℕ) (b : ℕ) (s : List ℕ) → BeginsWithRoom bytes a r → BeginsWithRoom bytes b s → (a ≡ b) × (r ≡ s)
room_alike bytes a r b s (spelled, is, e) other =
    let parts = room_parts bytes spelled r b s (spaced bytes spelled r e) (room_lacks spelled a is) other in
    (room_same spelled a b is parts.0, parts.1)

-- no two modes share a word
pub mode_same : (a b : PageMode) → mode_text a ≡ mode_text b → a ≡ b
mode_same First First e = refl
mode_same Next Next e = refl
mode_same FirstSingle FirstSingle e = refl
mode_same NextSingle NextSingle e = refl
mode_same a b e = absurd (differ (mode_text a) (mode_text b) refl e)

-- `0` alone is a room
pub zero_room : (spelled word : List ℕ) (told : Bool) → told ≡ true → told ≡ bytes_eq spelled word → word ≡ codes "0" → IsRoom spelled 0
zero_room spelled word told t is w = ((bytes_eq-Decides spelled word).0 (sym is ∙ t) ∙ (w ∙ sym (decimal_digit 0 (omega arith))), omega arith)

-- a room has a first byte, which is a digit; of each but `0` alone it is no zero
pub room_some : (spelled : List ℕ) (room : ℕ) → IsRoom spelled room → 0 < length spelled
room_some spelled room (e, small) = rw e (decimal_nonempty room (omega (arith, small)))

pub room_first : (spelled : List ℕ) (room : ℕ) → spelled ≢ codes "0" → IsRoom spelled room → (49 ≤ get_or spelled 0 0) × (get_or spelled 0 0 ≤ 57)
room_first spelled zero other (e, small) = absurd (other (e ∙ decimal_digit 0 (omega arith)))
room_first spelled (suc n) other (e, small) =
    let less : suc n < 2 ^ 64 = omega (arith, small) in
    let low : 48 < get_or (decimal (suc n)) 0 0 = first_decimal (suc n) (omega arith) less in
    let numeral = decimal_is_IsNumeral (suc n) less in
    let digit = digit_at (decimal (suc n)) 0 numeral.0.1 numeral.0.0 in
    rw e (omega (arith, low), digit.1)

-- the text of bytes, and bytes that are none
pub text_same : {E : Type 0} (V : E → Type 0) (bytes : List ℕ) (r : Result (Bor (List ℕ)) E) (text : Bor (List ℕ))
    → MatchResult r (λ s. (s.now ≡ bytes) × IsUtf8 bytes) (λ e. ¬ (IsUtf8 bytes) × V e) → result_ok r ≡ Some text → text.now ≡ bytes
text_same V bytes (Ok x) text m e = let same : x ≡ text = cc in rw (← same) m.0
text_same V bytes (Err d) text m e = cc

pub no_text : {E : Type 0} (V : E → Type 0) (bytes : List ℕ) (r : Result (Bor (List ℕ)) E)
    → MatchResult r (λ s. (s.now ≡ bytes) × IsUtf8 bytes) (λ e. ¬ (IsUtf8 bytes) × V e) → result_ok r ≡ None → (room : ℕ) → ¬ IsRoom bytes room
no_text V bytes (Ok x) m e room is = cc
no_text V bytes (Err d) m e room (is, small) =
    m.0 (moved IsUtf8 bytes (decimal room) is (IsUtf8-from_ascii (decimal room) (IsAscii-decimal room (omega (arith, small)))))

own : IsNumeralModel (AllDigits 10) (digits_value 10)
own = numerals_by_value (AllDigits 10) tells_digits

-- what `parse` finds of bytes that begin with no sign and no zero
pub number_found : {E : Type 0} (bytes text : List ℕ) (r : Result ℕ E) → 49 ≤ get_or bytes 0 0 → text ≡ bytes → ParsesUnsigned 32 10 text r
    → IfSome (result_ok r) (λ room. IsRoom bytes room)
number_found {E} bytes text (Ok x) one same parsed =
    let here : ParsesUnsigned {E = E} 32 10 bytes (Ok x) = rw same at parsed in
    let is = parse_plain own {E = E} 32 bytes (Ok x) here (λ e. omega (arith, one, e)) in
    let spelled : decimal (digits_value 10 bytes) ≡ bytes =
    decimal-digits_value own bytes is.0.0 is.0.1 (λ e. absurd (omega (arith, one, e))) (omega (arith, is.0.2)) in
    rw is.1 (sym spelled, is.0.2)
number_found bytes text (Err d) one same parsed = tt

pub number_none : {E : Type 0} (bytes text : List ℕ) (r : Result ℕ E) → text ≡ bytes → ParsesUnsigned 32 10 text r
    → IfNone (result_ok r) ((room : ℕ) → ¬ IsRoom bytes room)
number_none bytes text (Ok x) same parsed = tt
number_none {E} bytes text (Err d) same parsed = λ room is.
    let read : Err d ≡ Ok room = parse-decimal 32 room text (Err d) is.1 (omega (arith, is.1)) (same ∙ is.0) parsed in
    cc
