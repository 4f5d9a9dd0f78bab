-- Two maps that keep a table: handles by their orders of opening, and orders by values.
--
-- Source: this profile.
use Rattle.std.specs.Prelude.{◌≡◌, ℕ, ◌+◌, ◌==◌, if◌then◌else◌, List, [], ◌∷◌, Option, Some, length}
use Rattle.std.specs.BTreeMap.{is_at}
use Rattle.std.specs.List.Sorted.{IsStrictlySortedBy}
use Rattle.std.specs.Map.{keys_of, lookup}
use Rattle.std.specs.Option.{option_map}
use Rattle.std.specs.Ordering.{nat_cmp}
use Rattle.ob_model.specs.declared.state.Held.{Held}
use Rattle.ob_model.specs.Grants.{IsHandleValue}

-- what a map has under a number
abbrev pub at : {X : Type 0} → List (ℕ × X) → ℕ → Option X
at entries key = lookup (is_at (nat_cmp key)) entries

-- The maps say the same: a handle is under its own order, its value leads to that order, and each
-- value leads to a handle that has it.
pub record IsIndexed (by_order : List (ℕ × Held)) (by_value : List (ℕ × ℕ)) : Type 0 where
  pub orders_rise : IsStrictlySortedBy nat_cmp (keys_of by_order)
  pub values_rise : IsStrictlySortedBy nat_cmp (keys_of by_value)
  pub handles : (order : ℕ) (held : Held) → at by_order order ≡ Some held
      → (held.order ≡ order) × (at by_value held.value ≡ Some order) × IsHandleValue held.value
  pub values : (value order : ℕ) → at by_value value ≡ Some order → option_map (λ h. h.value) (at by_order order) ≡ Some value
  pub as_many : length by_value ≡ length by_order

-- the least multiple of four from this one on that isn't among rising ones
abbrev pub gap : ℕ → List ℕ → ℕ
gap least [] = least
gap least (value ∷ values) = if value == least then gap (least + 4) values else least
