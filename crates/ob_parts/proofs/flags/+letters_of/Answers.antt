-- A letter that stands again, and one that doesn't.
use Rattle.std.proofs.Common.{◌≡◌, ◌+◌, ◌∷◌, List, ℕ, Some, sym, ◌∙◌, refl, true, false, eqb}
use Rattle.std.specs.List.{list_any}
use Rattle.ob_parts.specs.Flags.{IsLetters, flag_of}
use Rattle.ob_parts.proofs.Flagged.{lacks_from_test, test_no_lacks}
use Rattle.ob_parts.proofs.flags.+letters_of.Goals as goal

again : (letters others : List ℕ) (c bits : ℕ) → letters ≡ c ∷ others → list_any (λ y. eqb y c) others ≡ true → ¬ IsLetters letters bits
again letters others c bits e t s =
    let l : IsLetters (c ∷ others) bits = rw e at s in test_no_lacks c others t l.3

once : (letters others : List ℕ) (c flag rest : ℕ) → letters ≡ c ∷ others → flag_of c ≡ Some flag → list_any (λ y. eqb y c) others ≡ false → IsLetters others rest → IsLetters letters (flag + rest)
once letters others c flag rest e f t s = rw e (flag, rest, f, lacks_from_test c others t, s, refl)

pub returns-then-contains-clause-none : goal.returns-then-contains-clause-none
returns-then-contains-clause-none t c = λ bits s.
    again _ _ _ bits c.in-Some.ensures.cases.0 (sym c.contains.ensures.value ∙ c.if-contains.true) s

pub returns-clause-found : goal.returns-clause-found
returns-clause-found t c =
    once _ _ _ _ _ c.in-Some.ensures.cases.0 (sym c.flag_of.ensures.value ∙ c.in_ok-flag.was) (sym c.contains.ensures.value ∙ c.if-contains.false) c.in_ok-letters_of.ensures.found
