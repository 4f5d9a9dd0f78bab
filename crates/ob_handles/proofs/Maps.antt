-- Two maps that say the same of handles, as functions: by order of opening and by value. The invariant
-- stays when a handle is added or removed.
use Rattle.std.proofs.Common.{◌≡◌, ◌∙◌, ℕ, ◌==◌, Bool, true, false, cond, Option, None, Some, option_map, refl, ap, sym, subst, eqb-true, eq-eqb}
use Rattle.std.proofs.lemmas.Bool.{false≢true}
use Rattle.ob_model.specs.declared.state.Held.{Held}
use Rattle.ob_model.specs.Grants.{IsHandleValue}

-- what is said of a handle under an order, and of an order under a value
abbrev pub SaysHandles : (ℕ → Option Held) → (ℕ → Option ℕ) → Type 0
SaysHandles f g = (order : ℕ) (held : Held) → f order ≡ Some held → (held.order ≡ order) × (g held.value ≡ Some order) × IsHandleValue held.value

abbrev pub SaysValues : (ℕ → Option Held) → (ℕ → Option ℕ) → Type 0
SaysValues f g = (value order : ℕ) → g value ≡ Some order → option_map (λ h. h.value) (f order) ≡ Some value

-- a map with something else under one number
abbrev pub Puts : {X : Type 0} → (ℕ → Option X) → (ℕ → Option X) → ℕ → Option X → Type 0
Puts f t key value = (q : ℕ) → t q ≡ cond (q == key) value (f q)

some_none : {X : Type 0} {x : X} → None ≡ Some x → ⊥
some_none e = cc

at_same : {X : Type 0} (f : ℕ → Option X) (k l : ℕ) → k ≡ l → f k ≡ f l
at_same f k l e = ap f e

module _ (f t : ℕ → Option Held) (g u : ℕ → Option ℕ) (handles : SaysHandles f g) (values : SaysValues f g) where
  -- a handle more, under an order and a value that weren't there
  module _ (held : Held) (f_puts : Puts f t held.order (Some held)) (g_puts : Puts g u held.value (Some held.order))
      (is : IsHandleValue held.value) (no_order : f held.order ≡ None) (no_value : g held.value ≡ None) where
    pub handles_put : SaysHandles t u
    handles_put order h found = go (order == held.order) refl (sym (f_puts order) ∙ found)
      where
        old : (b : Bool) → (h.value == held.value) ≡ b → g h.value ≡ Some order → u h.value ≡ Some order
        old true same there = absurd (some_none (sym no_value ∙ sym (at_same g h.value held.value (eqb-true h.value held.value same)) ∙ there))
        old false other there = g_puts h.value ∙ ap (λ b. cond b (Some held.order) (g h.value)) other ∙ there

        go : (b : Bool) → (order == held.order) ≡ b → cond b (Some held) (f order) ≡ Some h → (h.order ≡ order) × (u h.value ≡ Some order) × IsHandleValue h.value
        go true same at =
            let order_is : order ≡ held.order = eqb-true order held.order same in
            let it : held ≡ h = cc in
            subst (λ (x : Held). (x.order ≡ order) × (u x.value ≡ Some order) × IsHandleValue x.value) it
            (sym order_is, g_puts held.value ∙ ap (λ b. cond b (Some held.order) (g held.value)) (eq-eqb held.value held.value refl) ∙ ap Some (sym order_is), is)
        go false other at =
            let says = handles order h at in
            (says.0, old (h.value == held.value) refl says.1, says.2)

    pub values_put : SaysValues t u
    values_put value order found = go (value == held.value) refl (sym (g_puts value) ∙ found)
      where
        old : (b : Bool) → (order == held.order) ≡ b → option_map (λ h. h.value) (f order) ≡ Some value → option_map (λ h. h.value) (t order) ≡ Some value
        old true same there = absurd (some_none (sym (ap (option_map (λ h. h.value)) (at_same f order held.order (eqb-true order held.order same) ∙ no_order)) ∙ there))
        old false other there = ap (option_map (λ h. h.value)) (f_puts order ∙ ap (λ b. cond b (Some held) (f order)) other) ∙ there

        go : (b : Bool) → (value == held.value) ≡ b → cond b (Some held.order) (g value) ≡ Some order → option_map (λ h. h.value) (t order) ≡ Some value
        go true same at =
            let order_is : held.order ≡ order = cc in
            ap (option_map (λ h. h.value)) (at_same t order held.order (sym order_is) ∙ f_puts held.order ∙ ap (λ b. cond b (Some held) (f held.order)) (eq-eqb held.order held.order refl))
            ∙ ap Some (sym (eqb-true value held.value same))
        go false other at = old (order == held.order) refl (values value order at)

  -- a handle less
  module _ (value order : ℕ) (there : g value ≡ Some order) (f_puts : Puts f t order None) (g_puts : Puts g u value None) where
    pub handles_take : SaysHandles t u
    handles_take o h found = go (o == order) refl (sym (f_puts o) ∙ found)
      where
        old : (b : Bool) → (h.value == value) ≡ b → (o == order) ≡ false → g h.value ≡ Some o → u h.value ≡ Some o
        old true same other at =
            let one : o ≡ order = let e : Some o ≡ Some order = sym at ∙ at_same g h.value value (eqb-true h.value value same) ∙ there in cc in
            absurd (false≢true (sym other ∙ eq-eqb o order one))
        old false apart other at = g_puts h.value ∙ ap (λ b. cond b None (g h.value)) apart ∙ at

        go : (b : Bool) → (o == order) ≡ b → cond b None (f o) ≡ Some h → (h.order ≡ o) × (u h.value ≡ Some o) × IsHandleValue h.value
        go true same at = absurd (some_none at)
        go false other at =
            let says = handles o h at in
            (says.0, old (h.value == value) refl other says.1, says.2)

    pub values_take : SaysValues t u
    values_take v o found = go (v == value) refl (sym (g_puts v) ∙ found)
      where
        old : (b : Bool) → (o == order) ≡ b → (v == value) ≡ false → option_map (λ h. h.value) (f o) ≡ Some v → option_map (λ h. h.value) (t o) ≡ Some v
        old true same other at =
            let one : v ≡ value =
            let e : Some v ≡ Some value = sym at ∙ ap (option_map (λ h. h.value)) (at_same f o order (eqb-true o order same)) ∙ values value order there in
            cc
            in
            absurd (false≢true (sym other ∙ eq-eqb v value one))
        old false apart other at = ap (option_map (λ h. h.value)) (f_puts o ∙ ap (λ b. cond b None (f o)) apart) ∙ at

        go : (b : Bool) → (v == value) ≡ b → cond b None (g v) ≡ Some o → option_map (λ h. h.value) (t o) ≡ Some v
        go true same at = absurd (some_none at)
        go false other at = old (o == order) refl other (values v o at)
