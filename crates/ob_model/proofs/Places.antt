-- The places of rows: a directory and a component under which no earlier row stands there.
use Rattle.std.proofs.Common.{◌≡◌, ◌≢◌, ℕ, ◌==◌, Bool, true, false, ◌&&◌, not, List, [], ◌∷◌, All, refl, ap, sym, ◌∙◌, arith, eq-eqb, eqb-true}
use Rattle.std.specs.Prelude.{AllPairs}
use Rattle.std.specs.List.{list_all}
use Rattle.std.specs.Str.{bytes_eq}
use Rattle.std.specs.Cmp.Lexicographic.{bytes_decides}
use Rattle.std.proofs.lemmas.Bool.{and_parts, and_from, false≢true}
use Rattle.std.proofs.lemmas.List.Elements.{All-weaker}
use Rattle.std.proofs.lemmas.List.Kept.{AllPairs-cons}
use Rattle.std.proofs.lemmas.List.Sums.{AllPass-from_list_all}
use Rattle.ob_model.specs.declared.state.Row.{Row}
use Rattle.ob_model.specs.Names.{separator, upper, same_name, IsComponent}
use Rattle.ob_model.specs.Paths.{is_match}
use Rattle.ob_model.specs.Sound.{IsDirectory, is_barred}
use Rattle.ob_model.specs.State.{State}
use Rattle.ob_model.proofs.Components.{is_inner, other_from_is_inner}

-- a test of whether a text is a component
abbrev pub is_component : List ℕ → Bool
is_component c = not (bytes_eq c []) && list_all is_inner c

pub IsComponent-from_test : (c : List ℕ) → is_component c ≡ true → IsComponent c
IsComponent-from_test [] h = cc
IsComponent-from_test (b ∷ bs) h =
    ((λ e. cc), All-weaker (λ x. is_inner x ≡ true) (λ x. x ≢ separator) (λ x inner. other_from_is_inner x inner) (b ∷ bs) (AllPass-from_list_all is_inner (b ∷ bs) h))

-- a test of whether no row stands where an earlier one does
abbrev pub do_stand_apart : List Row → Bool
do_stand_apart [] = true
do_stand_apart (r ∷ rows) = list_all (λ q. not (is_match q.directory q.name false r)) rows && do_stand_apart rows

was_false : (b : Bool) → not b ≡ true → b ≡ false
was_false true h = cc
was_false false h = refl

pub stand_apart : (rows : List Row) → do_stand_apart rows ≡ true → AllPairs (λ a b. is_match b.directory b.name false a ≡ false) rows
stand_apart [] e = λ i j d less within. absurd (omega (arith, within))
stand_apart (r ∷ rows) e =
    let parts = and_parts (list_all (λ q. not (is_match q.directory q.name false r)) rows) (do_stand_apart rows) e in
    AllPairs-cons (λ a b. is_match b.directory b.name false a ≡ false) r rows
    (All-weaker (λ q. not (is_match q.directory q.name false r) ≡ true) (λ q. is_match q.directory q.name false r ≡ false)
    (λ q other. was_false (is_match q.directory q.name false r) other) rows (AllPass-from_list_all (λ q. not (is_match q.directory q.name false r)) rows parts.0))
    (stand_apart rows parts.1)

-- names that are equal with case are one, and each is equal to itself
pub same_is_one : (a b : List ℕ) → same_name false a b ≡ true → a ≡ b
same_is_one a b h = (bytes_decides a b).0 h

pub own_name : (a : List ℕ) → same_name false a a ≡ true
own_name a = (bytes_decides a a).1 refl

-- so that they are equal without it, too
same_folded : (a b : List ℕ) → same_name false a b ≡ true → same_name true a b ≡ true
same_folded [] [] h = refl
same_folded [] (y ∷ b) h = h
same_folded (x ∷ a) [] h = h
same_folded (x ∷ a) (y ∷ b) h =
    let parts = and_parts (x == y) (same_name false a b) h in
    and_from (upper x == upper y) (same_name true a b) (eq-eqb (upper x) (upper y) (ap upper (eqb-true x y parts.0))) (same_folded a b parts.1)

-- a row that no name matches, with or without case, matches none with case
pub unmatched_with_case : (fold : Bool) (d : ℕ) (c : List ℕ) (r : Row) → is_match d c fold r ≡ false → is_match d c false r ≡ false
unmatched_with_case false d c r h = h
unmatched_with_case true d c r h = go (is_match d c false r) refl
  where
    go : (b : Bool) → is_match d c false r ≡ b → b ≡ false
    go false e = refl
    go true e =
        let parts = and_parts (r.directory == d) (same_name false r.name c) e in
        absurd (false≢true (sym h ∙ and_from (r.directory == d) (same_name true r.name c) parts.0 (same_folded r.name c parts.1)))

-- a place at which a row may be put: a component of a directory that isn't barred, and which no row has there
abbrev pub IsPlace : {K T F I : Type 0} → State K T F I → ℕ × List ℕ → Type 0
IsPlace s at = IsDirectory s at.0 × (is_barred at.0 at.1 ≡ false) × IsComponent at.1 × All (λ r. is_match at.0 at.1 false r ≡ false) s.rows
