-- Handle values: where they lead, and the next unused one in their circle.
--
-- Source: this profile.
use Rattle.std.specs.Prelude.{◌≡◌, ◌≢◌, ℕ, ◌+◌, ◌-◌, ◌*◌, ◌/◌, ◌%◌, ◌<◌, ◌==◌, if◌then◌else◌, Bool, false, Option, Some, None, IsSome}
use Rattle.ob_model.specs.declared.state.Held.{Held}
use Rattle.ob_handles.specs.Openings.{Rows}

-- the key of the row whose own value this is: 0 for 4, and so on
abbrev pub row_of : ℕ → ℕ
row_of value = value / 4 - 1

-- whether a row has a handle of this value
abbrev pub has_value : Option Held → ℕ → Bool
has_value None value = false
has_value (Some held) value = held.value == value

-- where a value leads: to its own row, if that has a handle of this value, and else where a map says
abbrev pub key_in : Rows → (ℕ → Option ℕ) → ℕ → Option ℕ
key_in rows foreign value = if has_value (rows (row_of value)) value then Some (row_of value) else foreign value

-- under one key another slot, under all others the same
abbrev pub Turns : {X : Type 0} → (ℕ → Option X) → (ℕ → Option X) → ℕ → Option X → Type 0
Turns old new key slot = (new key ≡ slot) × ((other : ℕ) → other ≢ key → new other ≡ old other)

-- the value that is so many after the one of this fourth, in a circle: after the greatest comes 4
abbrev pub behind : ℕ → ℕ → ℕ
behind fourth step = 4 * ((fourth + step) % 65535 + 1)

-- a value is the first that leads nowhere, of those after this fourth
pub record IsNextUnused (keys : ℕ → Option ℕ) (fourth value : ℕ) : Type 0 where
  pub step : ℕ
  pub within : step < 65535
  pub place : value ≡ behind fourth step
  pub unused : keys value ≡ None
  pub others : (k : ℕ) → k < step → IsSome (keys (behind fourth k))
