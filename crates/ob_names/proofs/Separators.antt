-- Lemmas on separators in a text.
use Rattle.std.proofs.Common.{◌≡◌, ◌≢◌, ◌∙◌, ℕ, ◌+◌, ◌-◌, ◌<◌, suc, true, false, not, List, [], ◌∷◌, length, get_or, take, drop, eqb, refl, sym, ap, arith, length-drop}
use Rattle.std.proofs.lemmas.Bool.Decides.{nat_tests}
use Rattle.std.proofs.lemmas.List.Folds.{length-prefix_len}
use Rattle.std.proofs.lemmas.List.Sums.{prefix_len_is, prefix_len-le-length, prefix_len_passes, prefix_len_stops}
use Rattle.std.specs.List.{prefix_len}
use Rattle.ob_names.specs.Splitting.{IsFirstSeparator}
use Rattle.ob_model.specs.Names.{separator, next_component, after_component, ends_in_separator, IsRest}

-- the test of the last byte, by its index
pub ends_in_separator-last : (xs : List ℕ) → ends_in_separator xs ≡ eqb (get_or xs (length xs - 1) 0) separator
ends_in_separator-last [] = refl
ends_in_separator-last (b ∷ []) = refl
ends_in_separator-last (b ∷ c ∷ bs) =
    let here : suc (suc (length bs)) - 1 ≡ suc (length bs) = omega arith in
    let below : suc (length bs) - 1 ≡ length bs = omega arith in
    rw here (rw below at (ends_in_separator-last (c ∷ bs)))

-- it, with the tests of numbers
pub ruleset last_byte = (ends_in_separator-last, nat_tests)

-- a byte passes the test of `next_component` where it is no separator
passes : (b : ℕ) → b ≢ separator → not (eqb b separator) ≡ true
passes b h = grind (arith, nat_tests)

stops : (b : ℕ) → b ≡ separator → not (eqb b separator) ≡ false
stops b h = grind (arith, nat_tests)

is_other : (b : ℕ) → not (eqb b separator) ≡ true → b ≢ separator
is_other b h e = grind (arith, nat_tests)

is_separator : (b : ℕ) → not (eqb b separator) ≡ false → b ≡ separator
is_separator b h = grind (arith, nat_tests)

component_length : (text : List ℕ) (n : ℕ) → IsFirstSeparator text n → prefix_len (λ b. not (eqb b separator)) text ≡ n
component_length text n f =
    prefix_len_is (λ b. not (eqb b separator)) text n 0 f.inside (λ k l. passes _ (f.before k l)) (λ l. stops _ (f.here l))

-- the component behind a separator ends at the text's first separator
pub next_component-text : (text : List ℕ) (n : ℕ) → IsFirstSeparator text n → next_component (separator ∷ text) ≡ take n text
next_component-text text n f = ap (λ k. take k text) (component_length text n f)

-- and what stands behind it begins there
pub after_component-text : (text : List ℕ) (n : ℕ) → IsFirstSeparator text n → after_component (separator ∷ text) ≡ drop n text
after_component-text text n f =
    let len : length (next_component (separator ∷ text)) ≡ n
    = length-prefix_len (λ b. not (eqb b separator)) text ∙ component_length text n f in
    let e : 1 + length (next_component (separator ∷ text)) ≡ suc n = omega (arith, len) in
    ap (λ k. drop k (separator ∷ text)) e

-- each text has a first separator, or ends without one
pub first_separator : (text : List ℕ) → IsFirstSeparator text (prefix_len (λ b. not (eqb b separator)) text)
first_separator text = record {
  inside = prefix_len-le-length (λ b. not (eqb b separator)) text;
  before = λ k l. is_other _ (prefix_len_passes (λ b. not (eqb b separator)) text k 0 l);
  here = λ l. is_separator _ (prefix_len_stops (λ b. not (eqb b separator)) text 0 l);
}

-- the two, for `grind`, which finds them at the two parts of the text
pub take-first_separator : (text : List ℕ) (n : ℕ) → IsFirstSeparator text n → take n text ≡ next_component (separator ∷ text)
take-first_separator text n f = sym (next_component-text text n f)

pub drop-first_separator : (text : List ℕ) (n : ℕ) → IsFirstSeparator text n → drop n text ≡ after_component (separator ∷ text)
drop-first_separator text n f = sym (after_component-text text n f)

pub ruleset split_off = (take-first_separator, drop-first_separator)

-- a rest that is not empty is a separator and what stands behind it
pub IsRest-cons : (rest : List ℕ) → IsRest rest → rest ≢ [] → rest ≡ separator ∷ drop 1 rest
IsRest-cons [] h n = absurd (n refl)
IsRest-cons (b ∷ bs) h n = ap (λ x. x ∷ bs) h

-- what stands behind a component is shorter than the rest that begins with it
pub after_component-shorter : (rest : List ℕ) → rest ≢ [] → length (after_component rest) < length rest
after_component-shorter [] n = absurd (n refl)
after_component-shorter (b ∷ bs) n = omega (arith, length-drop (1 + length (next_component (b ∷ bs))) (b ∷ bs))
