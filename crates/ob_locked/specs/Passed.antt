-- A caller's pass: its seat, and the receipts of its steps.
--
-- Source: this profile.
use Rattle.std.specs.Prelude.{◌≡◌, ℕ, ◌-◌, List, length, Option, Some, MatchOption, slice_get}
use Rattle.std.specs.Option.{option_map_or}
use Rattle.ob_model.specs.Run.{Entry}

-- a seat, and the entries of the steps that were made by it, in their order
pub record Passed (K : Type 0) : Type 0 where
  pub seat : ℕ
  pub receipts : List (Entry K)

-- the last of these entries
abbrev pub last_of : {K : Type 0} → List (Entry K) → Option (Entry K)
last_of entries = slice_get entries (length entries - 1)

-- its number, or 0 where there is none
abbrev pub last_number : {K : Type 0} → List (Entry K) → ℕ
last_number entries = option_map_or (λ e. e.number) (last_of entries) 0

-- the journal has the last of the receipts, if there is one, at its number: if not, the pass is a stranger's
abbrev pub IsKnown : {K : Type 0} → List (Entry K) → List (Entry K) → Type 0
IsKnown journal receipts = MatchOption (last_of receipts) (Unit {0}) (λ e. slice_get journal (e.number - 1) ≡ Some e)
