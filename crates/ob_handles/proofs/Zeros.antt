-- Counts of which those that are 0 are taken out.
use Rattle.std.proofs.Common.{◌≡◌, ◌∙◌, ℕ, ◌==◌, Bool, true, false, not, cond, [], ◌∷◌, Some, filter, refl, ap, sym, eqb-true}
use Rattle.std.specs.BTreeMap.{is_at}
use Rattle.std.specs.Map.{lookup}
use Rattle.std.specs.Option.{unwrap_or}
use Rattle.std.specs.Ordering.{nat_cmp}
use Rattle.ob_model.proofs.Ids.{Differ, is_at-id}
use Rattle.ob_handles.specs.Counts.{Numbers, count_of}
use Rattle.ob_handles.proofs.Lowered.{none_counted}

abbrev kept : Numbers → Numbers
kept counts = filter (λ e. not (e.1 == 0)) counts

first_counts : (object : ℕ) (e : ℕ × ℕ) (es : Numbers) (t : Bool) → (e.0 == object) ≡ t → count_of (e ∷ es) object ≡ cond t e.1 (count_of es object)
first_counts object e es t is = ap (λ b. unwrap_or (cond b (Some e.1) (lookup (is_at (nat_cmp object)) es)) 0) (is_at-id object e.0 ∙ is) ∙ pick t
  where
    pick : (b : Bool) → unwrap_or (cond b (Some e.1) (lookup (is_at (nat_cmp object)) es)) 0 ≡ cond b e.1 (count_of es object)
    pick true = refl
    pick false = refl

one_more : (e : ℕ × ℕ) (es : Numbers) (object : ℕ) → Differ (e ∷ es) → count_of (kept es) object ≡ count_of es object → count_of (kept (e ∷ es)) object ≡ count_of (e ∷ es) object
one_more e es object differ rest = go (e.1 == 0) (e.0 == object) refl refl
  where
    go : (zero here : Bool) → (e.1 == 0) ≡ zero → (e.0 == object) ≡ here → count_of (cond (not zero) (e ∷ kept es) (kept es)) object ≡ count_of (e ∷ es) object
    go true true is at =
        rest ∙ ap (count_of es) (sym (eqb-true e.0 object at)) ∙ none_counted e.0 es differ.0
        ∙ sym (eqb-true e.1 0 is) ∙ sym (first_counts object e es true at)
    go true false is at = rest ∙ sym (first_counts object e es false at)
    go false here is at =
        first_counts object e (kept es) here at ∙ ap (λ n. cond here e.1 n) rest ∙ sym (first_counts object e es here at)

pub counts_stay : (counts : Numbers) → Differ counts → (object : ℕ) → count_of (kept counts) object ≡ count_of counts object
counts_stay [] differ object = refl
counts_stay (e ∷ es) differ object = one_more e es object differ (counts_stay es differ.1 object)
