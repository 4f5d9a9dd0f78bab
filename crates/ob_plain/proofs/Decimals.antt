-- The text of a limit is the limit in decimal.
use Rattle.std.proofs.Common.{◌≡◌, ◌∙◌, ℕ, ◌+◌, ◌*◌, ◌-◌, ◌/◌, ◌%◌, ◌^◌, ◌≤◌, ◌<◌, Bool, true, false, ◌&&◌, leb, cond, List, [], ◌∷◌, ◌++◌, Option, None, Some, refl, ap, sym, rules, arith, append_assoc}
use Rattle.std.specs.Fmt.{decimal}
use Rattle.std.proofs.lemmas.Bool.{leb-true, le-leb, and_parts, and_from}
use Rattle.std.proofs.lemmas.Option.{same_Some}
use Rattle.std.proofs.lemmas.Fmt.{decimal_step, decimal_digit, decimal_by_steps}
use Rattle.std.proofs.lemmas.Nat.{div-mul-add, mod-mul-add}
use Rattle.ob_plain.specs.Limits.{digits_behind, is_digit_from, limit_of, IsLimit, greatest_limit}
use Rattle.ob_plain.proofs.Digits.{read_on}

-- a test that holds, and what it says
in_bounds : (least byte : ℕ) → is_digit_from least byte ≡ true → (least ≤ byte) × (byte ≤ 57)
in_bounds least byte t = let b = and_parts (leb least byte) (leb byte 57) t in (leb-true _ _ b.0, leb-true _ _ b.1)

is_digit : (least byte : ℕ) → least ≤ byte → byte ≤ 57 → is_digit_from least byte ≡ true
is_digit least byte low high = and_from (leb least byte) (leb byte 57) (le-leb _ _ low) (le-leb _ _ high)

-- one digit more
decimal_more : (total digit : ℕ) → 1 ≤ total → digit < 10 → 10 * total + digit < 2 ^ 64 → decimal (10 * total + digit) ≡ decimal total ++ ((48 + digit) ∷ [])
decimal_more total digit low small most =
    let e : 10 * total + digit ≡ total * 10 + digit = omega arith in
    let q : (10 * total + digit) / 10 ≡ total = rw e (div-mul-add total 10 digit small) in
    let r : (10 * total + digit) % 10 ≡ digit = rw e (mod-mul-add total 10 digit small) in
    decimal_step (10 * total + digit) (omega arith) most ∙ ap (λ n. decimal n ++ ((48 + (10 * total + digit) % 10) ∷ [])) q ∙ ap (λ n. decimal total ++ ((48 + n) ∷ [])) r

-- what is said behind one digit more, by what is said behind the number with it
said_at : (rest : List ℕ) (total byte limit : ℕ) → ((next : ℕ) → 1 ≤ next → next ≤ 65535 → digits_behind next rest ≡ Some limit → IsLimit (decimal next ++ rest) limit) → 1 ≤ total → (t : Bool) → (is_digit_from 48 byte && leb (10 * total + (byte - 48)) greatest_limit) ≡ t → cond t (digits_behind (10 * total + (byte - 48)) rest) None ≡ Some limit → IsLimit (decimal total ++ (byte ∷ rest)) limit
said_at rest total byte limit behind low false is e = grind arith
said_at rest total byte limit behind low true is e =
    let b = and_parts (is_digit_from 48 byte) (leb (10 * total + (byte - 48)) greatest_limit) is in
    let d = in_bounds 48 byte b.0 in
    let h : 10 * total + (byte - 48) ≤ 65535 = leb-true _ _ b.1 in
    let s = behind (10 * total + (byte - 48)) (omega (arith, low)) h e in
    let back : 48 + (byte - 48) ≡ byte = omega (arith, d.0) in
    let more = decimal_more total (byte - 48) low (omega (arith, d.0, d.1)) (omega (arith, h)) in
    let text : decimal total ++ (byte ∷ rest) ≡ decimal (10 * total + (byte - 48)) ++ rest = sym (ap (λ x. x ++ rest) more ∙ ap (λ x. (decimal total ++ (x ∷ [])) ++ rest) back ∙ append_assoc (decimal total) (byte ∷ []) rest) in
    record { is = text ∙ s.is; low = s.low; high = s.high }

-- a text that says a limit, digit after digit
said_behind : (rest : List ℕ) (total limit : ℕ) → 1 ≤ total → total ≤ 65535 → digits_behind total rest ≡ Some limit → IsLimit (decimal total ++ rest) limit
said_behind [] total limit low high e = let s = same_Some total limit e in record { is = search (rules, s); low = omega (arith, s); high = omega (arith, s) }
said_behind (byte ∷ rest) total limit low high e = said_at rest total byte limit (λ next l h f. said_behind rest next limit l h f) low (is_digit_from 48 byte && leb (10 * total + (byte - 48)) greatest_limit) refl e

first_at : (rest : List ℕ) (byte limit : ℕ) (t : Bool) → is_digit_from 49 byte ≡ t → cond t (digits_behind (byte - 48) rest) None ≡ Some limit → IsLimit (byte ∷ rest) limit
first_at rest byte limit false is e = grind arith
first_at rest byte limit true is e =
    let d = in_bounds 49 byte is in
    let s = said_behind rest (byte - 48) limit (omega (arith, d.0)) (omega (arith, d.1)) e in
    let back : 48 + (byte - 48) ≡ byte = omega (arith, d.0) in
    let text : byte ∷ rest ≡ decimal (byte - 48) ++ rest = sym (ap (λ x. x ++ rest) (decimal_digit (byte - 48) (omega (arith, d.0, d.1))) ∙ ap (λ x. (x ∷ []) ++ rest) back) in
    record { is = text ∙ s.is; low = s.low; high = s.high }

-- a text that says a limit is the limit in decimal
pub said_in_decimal : (text : List ℕ) (limit : ℕ) → limit_of text ≡ Some limit → IsLimit text limit
said_in_decimal [] limit e = grind arith
said_in_decimal (byte ∷ rest) limit e = first_at rest byte limit (is_digit_from 49 byte) refl e

-- digits behind digits
behind_chosen : (t : Bool) (a b : Option ℕ) (more : List ℕ) → a ≡ read_on b more → cond t a None ≡ read_on (cond t b None) more
behind_chosen true a b more e = e
behind_chosen false a b more e = refl

behind_append : (ds more : List ℕ) (total : ℕ) → digits_behind total (ds ++ more) ≡ read_on (digits_behind total ds) more
behind_append [] more total = refl
behind_append (byte ∷ ds) more total = behind_chosen (is_digit_from 48 byte && leb (10 * total + (byte - 48)) greatest_limit) _ _ more (behind_append ds more (10 * total + (byte - 48)))

limit_append : (ds more : List ℕ) (total : ℕ) → limit_of ds ≡ Some total → limit_of (ds ++ more) ≡ digits_behind total more
limit_append [] more total e = grind arith
limit_append (byte ∷ ds) more total e = behind_chosen (is_digit_from 49 byte) _ _ more (behind_append ds more (byte - 48)) ∙ ap (λ o. read_on o more) e

one_digit : (n : ℕ) → n < 10 → 1 ≤ n → n ≤ 65535 → limit_of ((48 + n) ∷ []) ≡ Some n
one_digit n small low high = ap (λ t. cond t (Some ((48 + n) - 48)) None) (is_digit 49 (48 + n) (omega (arith, low)) (omega (arith, small))) ∙ ap Some (omega arith)

digit_behind : (total digit : ℕ) → digit < 10 → 10 * total + digit ≤ 65535 → digits_behind total ((48 + digit) ∷ []) ≡ Some (10 * total + digit)
digit_behind total digit small high =
    let e : 10 * total + ((48 + digit) - 48) ≡ 10 * total + digit = omega arith in
    ap (λ t. cond t (Some (10 * total + ((48 + digit) - 48))) None) (and_from _ _ (is_digit 48 (48 + digit) (omega arith) (omega (arith, small))) (le-leb _ _ (omega (arith, high, e)))) ∙ ap Some e

more_digits : (n : ℕ) (ds : List ℕ) → 10 ≤ n → (1 ≤ n / 10 → n / 10 ≤ 65535 → limit_of ds ≡ Some (n / 10)) → 1 ≤ n → n ≤ 65535 → limit_of (ds ++ ((48 + n % 10) ∷ [])) ≡ Some n
more_digits n ds ten before low high =
    let parts : 10 * (n / 10) + n % 10 ≡ n = omega arith in
    limit_append ds ((48 + n % 10) ∷ []) (n / 10) (before (omega arith) (omega arith)) ∙ digit_behind (n / 10) (n % 10) (omega arith) (omega (arith, parts, high)) ∙ ap Some parts

-- a limit in decimal says the limit
pub decimal_says : (text : List ℕ) (limit : ℕ) → IsLimit text limit → limit_of text ≡ Some limit
decimal_says text limit l = ap limit_of l.is ∙ decimal_by_steps (λ n ds. 1 ≤ n → n ≤ 65535 → limit_of ds ≡ Some n) one_digit more_digits limit (omega (arith, l.high)) l.low l.high
