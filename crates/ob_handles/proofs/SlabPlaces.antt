-- Values in a circle: that they differ, and that not all of them lead to handles where the handles are fewer.
use Rattle.std.proofs.Common.{◌≡◌, ◌≢◌, ◌∙◌, ℕ, zero, suc, ◌+◌, ◌*◌, ◌%◌, ◌<◌, ◌≤◌, eqb, Bool, true, false, not, cond, List, [], ◌∷◌, length, filter, Option, None, Some, option_map, is_some, refl, ap, sym, subst, arith, inl, inr, eqb-true, eq-eqb, true≢false}
use Rattle.std.specs.Map.{lookup}
use Rattle.ob_model.specs.Grants.{IsHandleValue}
use Rattle.std.specs.List.{Contains}
use Rattle.slab.specs.Slab.{Slab, get, entries, slab_len}
use Rattle.slab.proofs.SlabLemmas.{Contains-cons_cases, Contains-entries, length-entries}
use Rattle.ob_model.specs.declared.state.Held.{Held}
use Rattle.ob_handles.specs.Kept.{LeadToHandles}
use Rattle.ob_handles.specs.Values.{behind}

apart : (fourth i j : ℕ) → i < j → j < 65535 → behind fourth i ≢ behind fourth j
apart fourth i j before below same = omega (arith, before, below, same)

-- the entries of other keys
abbrev others : {X : Type 0} → ℕ → List (ℕ × X) → List (ℕ × X)
others key es = filter (λ e. not (eqb key e.0)) es

no_more : {X : Type 0} (key : ℕ) (es : List (ℕ × X)) → length (others key es) ≤ length es
no_more key [] = omega arith
no_more {X} key (e ∷ es) = go (eqb key e.0) (no_more key es)
  where
    go : (b : Bool) → length (others key es) ≤ length es → length (cond (not b) (e ∷ others key es) (others key es)) ≤ suc (length es)
    go true more = omega (arith, more)
    go false more = omega (arith, more)

fewer : {X : Type 0} (key : ℕ) (es : List (ℕ × X)) → is_some (lookup (eqb key) es) ≡ true → length (others key es) + 1 ≤ length es
fewer key [] there = absurd (true≢false (sym there))
fewer {X} key (e ∷ es) there = go (eqb key e.0) there (fewer key es)
  where
    go : (b : Bool) → is_some (cond b (Some e.1) (lookup (eqb key) es)) ≡ true → (is_some (lookup (eqb key) es) ≡ true → length (others key es) + 1 ≤ length es)
        → length (cond (not b) (e ∷ others key es) (others key es)) + 1 ≤ suc (length es)
    go true here more = let most : length (others key es) ≤ length es = no_more key es in omega (arith, most)
    go false later more = let less : length (others key es) + 1 ≤ length es = more later in omega (arith, less)

still_found : {X : Type 0} (key other : ℕ) (es : List (ℕ × X)) → other ≢ key → lookup (eqb other) (others key es) ≡ lookup (eqb other) es
still_found key other [] differs = refl
still_found {X} key other (e ∷ es) differs = go (eqb key e.0) refl (still_found key other es differs)
  where
    skipped : eqb key e.0 ≡ true → (b : Bool) → eqb other e.0 ≡ b → eqb other e.0 ≡ false
    skipped same true found = absurd (differs (eqb-true other e.0 found ∙ sym (eqb-true key e.0 same)))
    skipped same false found = found

    go : (b : Bool) → eqb key e.0 ≡ b → lookup (eqb other) (others key es) ≡ lookup (eqb other) es
        → lookup (eqb other) (cond (not b) (e ∷ others key es) (others key es)) ≡ cond (eqb other e.0) (Some e.1) (lookup (eqb other) es)
    go true same more = more ∙ sym (ap (λ b. cond b (Some e.1) (lookup (eqb other) es)) (skipped same (eqb other e.0) refl))
    go false apart more = ap (cond (eqb other e.0) (Some e.1)) more

-- where numbers that differ are keys, there are as many entries
as_many : {X : Type 0} (f : ℕ → ℕ) (bound : ℕ) → ((i j : ℕ) → i < j → j < bound → f i ≢ f j) → (n : ℕ) → n ≤ bound → (es : List (ℕ × X))
    → ((k : ℕ) → k < n → is_some (lookup (eqb (f k)) es) ≡ true) → n ≤ length es
as_many f bound differ zero within es all = omega arith
as_many {X} f bound differ (suc n) within es all =
    let less : length (others (f n) es) + 1 ≤ length es = fewer (f n) es (all n (omega arith)) in
    let more : n ≤ length (others (f n) es) =
    as_many f bound differ n (omega (arith, within)) (others (f n) es)
    (λ k below. ap is_some (still_found (f n) (f k) es (differ k n below (omega (arith, within)))) ∙ all k (omega (arith, below)))
    in
    omega (arith, less, more)

-- rows by the values of their handles
abbrev by_value : List (ℕ × Held) → List (ℕ × ℕ)
by_value [] = []
by_value (e ∷ es) = (e.1.value, e.0) ∷ by_value es

length-by_value : (es : List (ℕ × Held)) → length (by_value es) ≡ length es
length-by_value [] = refl
length-by_value (e ∷ es) = ap suc (length-by_value es)

listed : (es : List (ℕ × Held)) (e : ℕ × Held) → Contains es e → is_some (lookup (eqb e.1.value) (by_value es)) ≡ true
listed [] e there = absurd (omega (arith, there.1))
listed (x ∷ es) e there = elim (Contains-cons_cases x e es there) [
  | inl same ↦ here (eqb e.1.value x.1.value) (eq-eqb e.1.value x.1.value (ap (λ z. z.1.value) (sym same)))
  | inr later ↦ go (eqb e.1.value x.1.value) (listed es e later)
]
  where
    here : (b : Bool) → b ≡ true → is_some (cond b (Some x.0) (lookup (eqb e.1.value) (by_value es))) ≡ true
    here true same = refl
    here false same = absurd (true≢false (sym same))

    go : (b : Bool) → is_some (lookup (eqb e.1.value) (by_value es)) ≡ true → is_some (cond b (Some x.0) (lookup (eqb e.1.value) (by_value es))) ≡ true
    go true more = refl
    go false more = more

-- so not all handle values lead to handles, where the handles are fewer
pub not_all_used : (fourth : ℕ) (rows : Slab Held) (keys : ℕ → Option ℕ) → slab_len rows < 65535 → LeadToHandles (get rows) keys
    → ((k : ℕ) → k < 65535 → is_some (keys (behind fourth k)) ≡ true) → ⊥
not_all_used fourth rows keys room lead all =
    let many : 65535 ≤ length (by_value (entries rows)) =
    as_many (behind fourth) 65535 (apart fourth) 65535 (omega arith) (by_value (entries rows)) (λ k below. has_row (behind fourth k) (keys (behind fourth k)) refl (all k below))
    in
    let rows_many : length (by_value (entries rows)) ≡ length (entries rows) = length-by_value (entries rows) in
    let long : length (entries rows) ≡ slab_len rows = length-entries rows in
    omega (arith, room, many, rows_many, long)
  where
    in_row : (value key : ℕ) (o : Option Held) → get rows key ≡ o → option_map (λ h. h.value) o ≡ Some value → is_some (lookup (eqb value) (by_value (entries rows))) ≡ true
    in_row value key None row has = cc
    in_row value key (Some held) row has =
        let same : held.value ≡ value = cc in
        subst (λ v. is_some (lookup (eqb v) (by_value (entries rows))) ≡ true) same (listed (entries rows) (key, held) ((Contains-entries rows key held).1 row))

    has_row : (value : ℕ) (o : Option ℕ) → keys value ≡ o → is_some o ≡ true → is_some (lookup (eqb value) (by_value (entries rows))) ≡ true
    has_row value None leads some = absurd (true≢false (sym some))
    has_row value (Some key) leads some = in_row value key (get rows key) refl (lead value key leads)

-- each of them is a handle value
pub behind_value : (fourth step : ℕ) → IsHandleValue (behind fourth step)
behind_value fourth step = ((fourth + step) % 65535 + 1, refl, omega arith, omega arith)

-- and so is that of a row
pub row_value : (key : ℕ) → key < 65535 → IsHandleValue (4 * (key + 1))
row_value key below = (key + 1, refl, omega arith, omega (arith, below))
