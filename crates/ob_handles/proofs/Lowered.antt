-- Counts that are lowered by one listed count after another.
use Rattle.std.proofs.Common.{◌≡◌, ◌∙◌, ℕ, ◌-◌, ◌==◌, Bool, true, false, cond, if◌then◌else◌, [], ◌∷◌, Some, All, refl, ap, subst, arith, eqb-true}
use Rattle.std.specs.BTreeMap.{is_at}
use Rattle.std.specs.Map.{lookup}
use Rattle.std.specs.Option.{unwrap_or}
use Rattle.std.specs.Ordering.{nat_cmp}
use Rattle.std.proofs.lemmas.Bool.Decides.{nat_tests}
use Rattle.std.proofs.lemmas.List.Elements.{All-head, All-tail}
use Rattle.ob_model.proofs.Ids.{Differ, is_at-id}
use Rattle.ob_handles.specs.Counts.{Numbers, count_of, CountsLessBy}

turned : (a b : ℕ) → (a == b) ≡ (b == a)
turned a b = grind (arith, nat_tests)

-- an object that none is listed under isn't counted
pub none_counted : (object : ℕ) (rest : Numbers) → All (λ e. (e.0 == object) ≡ false) rest → count_of rest object ≡ 0
none_counted object [] none = refl
none_counted object (e ∷ es) none =
    ap (λ t. unwrap_or (cond t (Some e.1) (lookup (is_at (nat_cmp object)) es)) 0) (is_at-id object e.0 ∙ All-head (λ (x : ℕ × ℕ). (x.0 == object) ≡ false) e es none)
    ∙ none_counted object es (All-tail (λ (x : ℕ × ℕ). (x.0 == object) ≡ false) e es none)

pub one_lowered : (rest next old new : Numbers) (before : ℕ → ℕ) (object less : ℕ) → rest ≡ (object, less) ∷ next → Differ rest → CountsLessBy object less old new
    → ((o : ℕ) → count_of old o - count_of rest o ≡ before o) → (o : ℕ) → count_of new o - count_of next o ≡ before o
one_lowered rest next old new before object less is differ lowered left o = go (o == object) refl
  where
    apart : All (λ e. (e.0 == object) ≡ false) next
    apart = (subst (λ (n : Numbers). Differ n) is differ).0

    counted : (t : Bool) → (o == object) ≡ t → count_of rest o ≡ cond t less (count_of next o)
    counted t e =
        ap (λ n. count_of n o) is ∙ ap (λ b. unwrap_or (cond b (Some less) (lookup (is_at (nat_cmp o)) next)) 0) (is_at-id o object ∙ turned object o ∙ e) ∙ pick t
      where
        pick : (b : Bool) → unwrap_or (cond b (Some less) (lookup (is_at (nat_cmp o)) next)) 0 ≡ cond b less (count_of next o)
        pick true = refl
        pick false = refl

    go : (t : Bool) → (o == object) ≡ t → count_of new o - count_of next o ≡ before o
    go true e =
        let none : count_of next o ≡ 0 = ap (count_of next) (eqb-true o object e) ∙ none_counted object next apart in
        let here : count_of rest o ≡ less = counted true e in
        let lower : count_of new o ≡ count_of old o - less = lowered o ∙ ap (λ (b : Bool). count_of old o - (if b then less else 0)) e in
        let was : count_of old o - count_of rest o ≡ before o = left o in
        omega (arith, none, here, lower, was)
    go false e =
        let here : count_of rest o ≡ count_of next o = counted false e in
        let lower : count_of new o ≡ count_of old o - 0 = lowered o ∙ ap (λ (b : Bool). count_of old o - (if b then less else 0)) e in
        let was : count_of old o - count_of rest o ≡ before o = left o in
        omega (arith, here, lower, was)
