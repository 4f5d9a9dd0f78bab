-- Lists of stamps: the first that passes goes.
use Rattle.std.proofs.Common.{◌≡◌, ◌∙◌, ℕ, suc, ◌+◌, Bool, true, false, cond, not, List, [], ◌∷◌, length, None, Some, refl, ap, sym, arith, nat_lt}
use Rattle.std.specs.List.{position, position_or_len, remove}
use Rattle.std.specs.Set.{remove_key}
use Rattle.std.proofs.lemmas.Bool.Decides.{nat_tests}

-- to take away at the first place that passes is to take away the first that passes
one_more : (n : ℕ) → 1 + n ≡ suc n
one_more n = omega arith

remove_key-place : (test : ℕ → Bool) (ss : List ℕ) → remove ss (position_or_len test ss) ≡ remove_key test ss
remove_key-place test [] = refl
remove_key-place test (s ∷ ss) = go (test s) (remove_key-place test ss)
  where
    go : (b : Bool) → remove ss (position_or_len test ss) ≡ remove_key test ss
        → remove (s ∷ ss) (cond (not b) (1 + position_or_len test ss) 0) ≡ cond b ss (s ∷ remove_key test ss)
    go true more = refl
    go false more = ap (remove (s ∷ ss)) (one_more (position_or_len test ss)) ∙ ap (λ xs. s ∷ xs) more

place_is : (n i : ℕ) (b : Bool) → cond b (Some n) None ≡ Some i → i ≡ n
place_is n i true e = cc
place_is n i false e = cc

pub remove-position : (test : ℕ → Bool) (ss : List ℕ) (i : ℕ) → Some i ≡ position test ss → remove ss i ≡ remove_key test ss
remove-position test ss i at =
    ap (remove ss) (place_is (position_or_len test ss) i (nat_lt (position_or_len test ss) (length ss)) (sym at)) ∙ remove_key-place test ss

-- where none passes all stay
later_place : (n m : ℕ) → nat_lt (1 + n) (suc m) ≡ nat_lt n m
later_place n m = grind (arith, nat_tests)

first_place : (m : ℕ) → nat_lt 0 (suc m) ≡ true
first_place m = grind (arith, nat_tests)

none_goes : (test : ℕ → Bool) (ss : List ℕ) → nat_lt (position_or_len test ss) (length ss) ≡ false → remove_key test ss ≡ ss
none_goes test [] none = refl
none_goes test (s ∷ ss) none = go (test s) (none_goes test ss) none
  where
    go : (b : Bool) → (nat_lt (position_or_len test ss) (length ss) ≡ false → remove_key test ss ≡ ss)
        → nat_lt (cond (not b) (1 + position_or_len test ss) 0) (suc (length ss)) ≡ false → cond b ss (s ∷ remove_key test ss) ≡ s ∷ ss
    go true more none' = let there = first_place (length ss) in cc
    go false more none' = ap (λ xs. s ∷ xs) (more (sym (later_place (position_or_len test ss) (length ss)) ∙ none'))

pub remove_key-none : (test : ℕ → Bool) (ss : List ℕ) → None ≡ position test ss → ss ≡ remove_key test ss
remove_key-none test ss none = go (nat_lt (position_or_len test ss) (length ss)) refl (sym none)
  where
    go : (b : Bool) → nat_lt (position_or_len test ss) (length ss) ≡ b → cond b (Some (position_or_len test ss)) None ≡ None → ss ≡ remove_key test ss
    go true e at = cc
    go false e at = sym (none_goes test ss e)
