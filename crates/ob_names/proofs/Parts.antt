-- Lemmas on the parts of a text: what a text of the profile, or a name, is made of and makes.
use Rattle.std.proofs.Common.{◌≡◌, ◌∙◌, ℕ, ◌+◌, ◌≤◌, Bool, true, false, ◌&&◌, IsTrue, List, ◌++◌, length, take, drop, leb, refl, sym, arith, length-append, if◌then◌else◌}
use Rattle.std.proofs.lemmas.Bool.{false≢true}
use Rattle.std.proofs.lemmas.Bool.Decides.{nat_tests}
use Rattle.std.proofs.lemmas.List.{take-append-drop}
use Rattle.std.proofs.lemmas.List.Folds.{list_all-append}
use Rattle.ob_model.specs.Names.{is_profile_byte, is_profile_text, is_name, longest_name, substituted, ends_in_separator, begins_with_separator}

and_both : (s t : Bool) → IsTrue (s && t) → IsTrue s × IsTrue t
and_both true t h = (refl, h)
and_both false t h = absurd (false≢true h)

and_true : (s t : Bool) → IsTrue s → IsTrue t → IsTrue (s && t)
and_true s t h k = cc

-- both parts of a text of the profile are such texts
pub is_profile_text-parts : (a b : List ℕ) → IsTrue (is_profile_text (a ++ b)) → IsTrue (is_profile_text a) × IsTrue (is_profile_text b)
is_profile_text-parts a b h = and_both _ _ (sym (list_all-append is_profile_byte a b) ∙ h)

-- and two such texts make one
pub is_profile_text-append : (a b : List ℕ) → IsTrue (is_profile_text a) → IsTrue (is_profile_text b) → IsTrue (is_profile_text (a ++ b))
is_profile_text-append a b h k = list_all-append is_profile_byte a b ∙ and_true _ _ h k

-- what stands behind the first bytes of such a text is one
pub is_profile_text-drop : (n : ℕ) (text : List ℕ) → IsTrue (is_profile_text text) → IsTrue (is_profile_text (drop n text))
is_profile_text-drop n text h = (is_profile_text-parts (take n text) (drop n text) (rw take-append-drop h)).1

-- a name is a text of the profile
pub is_name-profile : (text : List ℕ) → IsTrue (is_name text) → IsTrue (is_profile_text text)
is_name-profile text h = (and_both _ _ h).0

-- of at most 32,767 bytes
pub is_name-length : (text : List ℕ) → IsTrue (is_name text) → length text ≤ longest_name
is_name-length text h = let fits = (and_both (is_profile_text text) (leb (length text) longest_name) h).1 in grind (arith, nat_tests, fits)

-- such a text of so many bytes is a name
pub is_name-from : (text : List ℕ) → IsTrue (is_profile_text text) → length text ≤ longest_name → IsTrue (is_name text)
is_name-from text h k = and_true _ _ h (grind (arith, nat_tests))

-- both parts of a name are names
pub is_name-parts : (a b : List ℕ) → IsTrue (is_name (a ++ b)) → IsTrue (is_name a) × IsTrue (is_name b)
is_name-parts a b h =
    let parts = is_profile_text-parts a b (is_name-profile (a ++ b) h) in
    let fits : length (a ++ b) ≤ longest_name = is_name-length (a ++ b) h in
    let sum : length (a ++ b) ≡ length a + length b = length-append a b in
    (is_name-from a parts.0 (omega arith), is_name-from b parts.1 (omega arith))

-- what stands behind the first bytes of a name is one
pub is_name-drop : (n : ℕ) (text : List ℕ) → IsTrue (is_name text) → IsTrue (is_name (drop n text))
is_name-drop n text h = (is_name-parts (take n text) (drop n text) (rw take-append-drop h)).1

-- a substitution of texts of the profile is one
pub is_profile_text-substituted : (target rest : List ℕ) → IsTrue (is_profile_text target) → IsTrue (is_profile_text rest) → IsTrue (is_profile_text (substituted target rest))
is_profile_text-substituted target rest h k =
    elim (ends_in_separator target && begins_with_separator rest) as (λ meet. IsTrue (is_profile_text (if meet then target ++ drop 1 rest else target ++ rest))) [
      | true ↦ is_profile_text-append target (drop 1 rest) h (is_profile_text-drop 1 rest k)
      | false ↦ is_profile_text-append target rest h k
    ]
