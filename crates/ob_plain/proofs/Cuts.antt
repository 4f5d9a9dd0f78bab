-- A text that is cut at the first byte of a value.
use Rattle.std.proofs.Common.{◌≡◌, ◌≢◌, ◌∙◌, ℕ, ◌+◌, ◌<◌, suc, Bool, true, false, not, cond, ◌==◌, ◌||◌, List, [], ◌∷◌, length, take, drop, refl, sym, ap, arith}
use Rattle.std.proofs.lemmas.Bool.Decides.{nat_tests}
use Rattle.std.proofs.lemmas.List.Sums.{position_or_len_is}
use Rattle.std.specs.List.{list_any, slice_split, onto_first, before_first, after_first, position_or_len}
use Rattle.ob_plain.specs.Arguments.{IsFirst}

equal : (a b : ℕ) → a ≡ b → (a == b) ≡ true
equal a b e = grind (arith, nat_tests)

unequal : (a b : ℕ) → a ≢ b → (a == b) ≡ false
unequal a b n = grind (arith, nat_tests)

-- the first place is the one that the parts go by
pub place_is : (byte : ℕ) (text : List ℕ) (place : ℕ) → IsFirst byte text place → position_or_len (λ b. b == byte) text ≡ place
place_is byte text place f =
    position_or_len_is (λ b. b == byte) text place 0 f.inside (λ k l. unequal _ _ (f.before k l)) (λ l. equal _ _ (f.here l))

pub before_is : (byte : ℕ) (text : List ℕ) (place : ℕ) → IsFirst byte text place → take place text ≡ before_first (λ b. b == byte) text
before_is byte text place f = sym (ap (λ n. take n text) (place_is byte text place f))

pub behind_is : (byte : ℕ) (text : List ℕ) (place : ℕ) → IsFirst byte text place → drop (place + 1) text ≡ after_first (λ b. b == byte) text
behind_is byte text place f = sym (ap (λ n. drop (n + 1) text) (place_is byte text place f))

-- what a test's parts are, by whether some element passes
module _ (p : ℕ → Bool) where
  one_more : (n : ℕ) → 1 + n ≡ suc n
  one_more n = omega arith

  -- where an element passes, the first place is inside
  pub found_inside : (xs : List ℕ) → position_or_len p xs < length xs → list_any p xs ≡ true
  found_inside [] l = absurd (omega (arith, l))
  found_inside (x ∷ xs) l = go (p x) refl (found_inside xs) l
    where
      go : (b : Bool) → p x ≡ b → (position_or_len p xs < length xs → list_any p xs ≡ true) → cond (not b) (1 + position_or_len p xs) 0 < suc (length xs) → (b || list_any p xs) ≡ true
      go true e more l = refl
      go false e more l = more (omega (arith, l))

  pub none_inside : (xs : List ℕ) → position_or_len p xs ≡ length xs → list_any p xs ≡ false
  none_inside [] e = refl
  none_inside (x ∷ xs) e = go (p x) refl (none_inside xs) e
    where
      go : (b : Bool) → p x ≡ b → (position_or_len p xs ≡ length xs → list_any p xs ≡ false) → cond (not b) (1 + position_or_len p xs) 0 ≡ suc (length xs) → (b || list_any p xs) ≡ false
      go true e more l = absurd (omega (arith, l))
      go false e more l = more (omega (arith, l))

  -- the parts of a text that no element cuts
  pub whole : (xs : List ℕ) → position_or_len p xs ≡ length xs → slice_split p xs ≡ xs ∷ []
  whole [] e = refl
  whole (x ∷ xs) e = go (p x) refl (whole xs) e
    where
      go : (b : Bool) → p x ≡ b → (position_or_len p xs ≡ length xs → slice_split p xs ≡ xs ∷ []) → cond (not b) (1 + position_or_len p xs) 0 ≡ suc (length xs) → cond b ([] ∷ slice_split p xs) (onto_first x (slice_split p xs)) ≡ (x ∷ xs) ∷ []
      go true e more l = absurd (omega (arith, l))
      go false e more l = ap (onto_first x) (more (omega (arith, l)))

  -- and of one that is cut
  pub first_part : (xs : List ℕ) → position_or_len p xs < length xs → slice_split p xs ≡ before_first p xs ∷ slice_split p (after_first p xs)
  first_part [] l = absurd (omega (arith, l))
  first_part (x ∷ xs) l = go (p x) refl (first_part xs) l
    where
      go : (b : Bool) → p x ≡ b → (position_or_len p xs < length xs → slice_split p xs ≡ before_first p xs ∷ slice_split p (after_first p xs))
          → cond (not b) (1 + position_or_len p xs) 0 < suc (length xs)
          → cond b ([] ∷ slice_split p xs) (onto_first x (slice_split p xs)) ≡ take (cond (not b) (1 + position_or_len p xs) 0) (x ∷ xs) ∷ slice_split p (drop (cond (not b) (1 + position_or_len p xs) 0 + 1) (x ∷ xs))
      go true e more l = refl
      go false e more l =
          let n = position_or_len p xs in
          let there : 1 + n ≡ suc n = one_more n in
          let behind : (1 + n) + 1 ≡ suc (n + 1) = omega arith in
          ap (onto_first x) (more (omega (arith, l)))
          ∙ ap (λ k. take k (x ∷ xs) ∷ slice_split p (drop (n + 1) xs)) (sym there)
          ∙ ap (λ k. take (1 + n) (x ∷ xs) ∷ slice_split p (drop k (x ∷ xs))) (sym behind)
