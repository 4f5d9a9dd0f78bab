-- The way up from an object, one row further or without a row; and the text of its names, one name more.
use Rattle.std.proofs.Common.{◌≡◌, ◌≢◌, ℕ, ◌<◌, ◌==◌, true, false, not, List, [], ◌∷◌, ◌++◌, append_assoc, map, reverse, length, refl, ap, ◌∙◌, sym, subst, eqb-true, arith}
use Rattle.std.specs.Prelude.{Some, None, All}
use Rattle.std.proofs.lemmas.Bool.Decides.{nat_tests}
use Rattle.std.proofs.lemmas.List.{map-append, reverse-append}
use Rattle.ob_model.specs.declared.state.Row.{Row}
use Rattle.ob_model.specs.Names.{separator}
use Rattle.ob_model.specs.State.{State, root_id}
use Rattle.ob_model.specs.Naming.{row_of, IsWayUp, names_joined, path_text}
use Rattle.ob_model.proofs.SoundPaths.{find_of, of_some}
use Rattle.ob_space.proofs.Handles.{found_passes}

-- what a test of two numbers that differ says
pub differ : (a b : ℕ) → true ≡ not (a == b) → a ≢ b
differ a b e same = grind (arith, nat_tests)

pub agree : (a b : ℕ) → false ≡ not (a == b) → a ≡ b
agree a b e = grind (arith, nat_tests)

module _ {K T F I : Type 0} (s : State K T F I) where
  -- the directory of the row that names an object is below it, where each row's is below its object
  pub falls : (o : ℕ) (r : Row) → All (λ x. x.directory < x.object) s.rows → row_of s o ≡ Some r → r.directory < o
  falls o r below e =
      let less : r.directory < r.object = of_some (λ x. x.directory < x.object) (row_of s o) r e (find_of (λ x. x.directory < x.object) (λ x. x.object == o) s.rows below) in
      let same : r.object ≡ o = eqb-true r.object o (found_passes (λ x. x.object == o) s.rows r e) in
      omega (arith, less, same)

  -- an object other than the root without a row has no way up
  pub no_row : (o : ℕ) (names : List (List ℕ)) → o ≢ root_id → row_of s o ≡ None → IsWayUp s o names → ⊥
  no_row o [] other e way = other way
  no_row o (c ∷ cs) other e way = let found : row_of s o ≡ Some way.1.0 = way.1.1 in cc

  -- the way up from an object other than the root goes on from the directory of its row
  pub onward : (o : ℕ) (r : Row) (names : List (List ℕ)) → o ≢ root_id → row_of s o ≡ Some r → IsWayUp s o names → (others : List (List ℕ)) × IsWayUp s r.directory others
  onward o r [] other e way = absurd (other way)
  onward o r (c ∷ cs) other e way =
      let found : row_of s o ≡ Some way.1.0 = way.1.1 in
      let same : way.1.0 ≡ r = cc in
      (cs, subst (λ (x : Row). IsWayUp s x.directory cs) same way.1.3)

  -- names behind which a way up from an object stands, and one name more
  pub behind : (first o : ℕ) (r : Row) (names more : List (List ℕ)) → o ≢ root_id → row_of s o ≡ Some r → more ≡ names ++ r.name ∷ []
      → ((cs : List (List ℕ)) → IsWayUp s o cs → IsWayUp s first (names ++ cs))
      → (cs : List (List ℕ)) → IsWayUp s r.directory cs → IsWayUp s first (more ++ cs)
  behind first o r names more other e is led cs way =
      subst (λ (xs : List (List ℕ)). IsWayUp s first xs) (sym (ap (λ (xs : List (List ℕ)). xs ++ cs) is ∙ append_assoc names (r.name ∷ []) cs))
      (led (r.name ∷ cs) (other, (r, e, refl, way)))

-- a name more of a text that is written from its end
pub text_more : (text pushed extended name : List ℕ) (names : List (List ℕ)) → pushed ≡ text ++ separator ∷ [] → extended ≡ pushed ++ name
    → text ≡ names_joined names → extended ≡ names_joined (name ∷ names)
text_more text pushed extended name names begun added is =
    added ∙ ap (λ (xs : List ℕ). xs ++ name) begun ∙ append_assoc text (separator ∷ []) name ∙ ap (λ (xs : List ℕ). xs ++ separator ∷ name) is

-- the path of a way that isn't empty
pub path_joined : {X : Type 0} (name : X → List ℕ) (xs : List X) → (length xs == 0) ≡ false → names_joined (map name xs) ≡ path_text (map name xs)
path_joined name [] some = cc
path_joined name (x ∷ xs) some = refl

-- the names of what was passed from the end, and one more
pub names_more : {X Y : Type 0} (now : Y → X) (name : X → List ℕ) (ys : List Y) (y : Y) → map name (reverse (map now (ys ++ y ∷ []))) ≡ name (now y) ∷ map name (reverse (map now ys))
names_more now name ys y =
    ap (λ (xs : List _). map name (reverse xs)) (map-append now ys (y ∷ [])) ∙ ap (map name) (reverse-append (map now ys) (now y ∷ []))
