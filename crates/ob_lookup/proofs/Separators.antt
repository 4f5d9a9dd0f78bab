-- The last separator of a text, and the parts of a name there.
use Rattle.std.proofs.Common.{◌≡◌, ◌≢◌, ◌∙◌, ℕ, IsTrue, List, [], ◌∷◌, ◌++◌, take, drop, Option, None, Some, IfNone, All, refl, sym, subst, take-append-drop}
use Rattle.std.proofs.lemmas.List.Elements.{All-head, All-tail}
use Rattle.ob_model.specs.Names.{separator, is_name}
use Rattle.ob_names.proofs.Parts.{is_name-parts, is_name-drop}
use Rattle.ob_lookup.specs.Onward.{IsCutAt}

-- a front of a name is one
pub name_front : (n : ℕ) (text : List ℕ) → IsTrue (is_name text) → IsTrue (is_name (take n text))
name_front n text h = (is_name-parts (take n text) (drop n text) (rw take-append-drop h)).0

-- so is a part within it
pub name_within : (n m : ℕ) (text : List ℕ) → IsTrue (is_name text) → IsTrue (is_name (take n (drop m text)))
name_within n m text h = name_front n (drop m text) (is_name-drop m text h)

-- the byte is no separator
abbrev IsOther : ℕ → Type 0
IsOther b = b ≢ separator

-- a text with a separator has one
one_is : (front last : List ℕ) → All IsOther (front ++ separator ∷ last) → ⊥
one_is [] last each = All-head IsOther separator last each refl
one_is (x ∷ front) last each = one_is front last (All-tail IsOther x (front ++ separator ∷ last) each)

same_text : (text other : List ℕ) → Some text ≡ Some other → text ≡ other
same_text text other e = cc

-- a text with no separator is cut nowhere
pub not_cut : (behind : Option (List ℕ)) (text : List ℕ) → behind ≡ Some text → All (λ b. b ≢ separator) text → (front last : List ℕ) → IsCutAt behind front last → ⊥
not_cut behind text is others front last cut = one_is front last (subst (All IsOther) (same_text text (front ++ separator ∷ last) (sym is ∙ cut.0)) others)

-- what holds where there is none, and what follows from it
pub IfNone-map : {X : Type 0} (A B : Type 0) (x : Option X) → (A → B) → IfNone x A → IfNone x B
IfNone-map A B None follows a = follows a
IfNone-map A B (Some x) follows a = a
