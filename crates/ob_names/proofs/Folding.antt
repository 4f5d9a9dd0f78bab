-- Lemmas on texts that are equal where the case of letters does not count.
use Rattle.std.proofs.Common.{◌≡◌, ◌∙◌, ℕ, Bool, true, ◌↔◌, IsTrue, List, [], ◌∷◌, map, eqb, refl, sym, ap, arith, Decides}
use Rattle.std.proofs.lemmas.Bool.Decides.{same_from_decides, Decides-like, Decides-at, nat_tests}
use Rattle.std.specs.Char.{to_ascii_lowercase}
use Rattle.std.specs.Cmp.Derive.Mapped.{pointwise-map}
use Rattle.std.specs.Cmp.Lexicographic.{bytes_decides}
use Rattle.ob_model.specs.Names.{upper, same_name}

-- a byte's small letter is its capital's
lowercase-upper : (b : ℕ) → to_ascii_lowercase (upper b) ≡ to_ascii_lowercase b
lowercase-upper b = grind (arith, nat_tests)

-- a byte's capital is its small letter's
upper-lowercase : (b : ℕ) → upper (to_ascii_lowercase b) ≡ upper b
upper-lowercase b = grind (arith, nat_tests)

map_lowercase-upper : (xs : List ℕ) → map to_ascii_lowercase (map upper xs) ≡ map to_ascii_lowercase xs
map_lowercase-upper [] = refl
map_lowercase-upper (x ∷ xs) = λ i. lowercase-upper x i ∷ map_lowercase-upper xs i

map_upper-lowercase : (xs : List ℕ) → map upper (map to_ascii_lowercase xs) ≡ map upper xs
map_upper-lowercase [] = refl
map_upper-lowercase (x ∷ xs) = λ i. upper-lowercase x i ∷ map_upper-lowercase xs i

-- two texts have the same small letters where they have the same capitals
same_lowercase : (a b : List ℕ) → map upper a ≡ map upper b → map to_ascii_lowercase a ≡ map to_ascii_lowercase b
same_lowercase a b e = sym (map_lowercase-upper a) ∙ ap (map to_ascii_lowercase) e ∙ map_lowercase-upper b

same_upper : (a b : List ℕ) → map to_ascii_lowercase a ≡ map to_ascii_lowercase b → map upper a ≡ map upper b
same_upper a b e = sym (map_upper-lowercase a) ∙ ap (map upper) e ∙ map_upper-lowercase b

-- with fold, names are equal exactly where their small letters are
same_name-folded : (a b : List ℕ) → Decides (same_name true a b) (map to_ascii_lowercase a ≡ map to_ascii_lowercase b)
same_name-folded a b =
    Decides-like _ (same_lowercase a b) (same_upper a b)
    (Decides-at _ _ (sym (pointwise-map upper eqb a b)) (bytes_decides (map upper a) (map upper b)))

-- so a test of the small letters is the test of the names
pub same_name-by_lowercase : (a b : List ℕ) (r : Bool) → (IsTrue r ↔ (map to_ascii_lowercase a ≡ map to_ascii_lowercase b)) → r ≡ same_name true a b
same_name-by_lowercase a b r h = same_from_decides r (same_name true a b) h (same_name-folded a b)
