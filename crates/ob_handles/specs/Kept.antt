-- A table that is kept in three parts: its handles in rows, the rows' keys by the handles' values, and openings.
-- The map of keys has only the values that aren't those of their rows.
--
-- Source: this profile.
use Rattle.std.specs.Prelude.{◌≡◌, ℕ, ◌+◌, ◌*◌, ◌≤◌, true, List, Option, Some, None, length}
use Rattle.std.specs.List.{Contains}
use Rattle.std.specs.Option.{option_map}
use Rattle.ob_model.specs.declared.state.Held.{Held}
use Rattle.ob_model.specs.Grants.{IsHandleValue}
use Rattle.ob_handles.specs.declared.openings.Opening.{Opening}
use Rattle.ob_handles.specs.Openings.{Rows, handles_of, AreRising, LeadsToFirst, NoneIsNewer}
use Rattle.ob_handles.specs.Values.{row_of, has_value, key_in}

-- each value leads to a row whose handle has it
abbrev pub LeadToHandles : Rows → (ℕ → Option ℕ) → Type 0
LeadToHandles rows keys = (value key : ℕ) → keys value ≡ Some key → option_map (λ h. h.value) (rows key) ≡ Some value

-- The parts say the same: the value of a row's handle leads to its key, the handle has an opening, and each value
-- leads to a handle that has it. There are at most two openings for each handle, and one more.
pub record IsKept (rows : Rows) (keys : ℕ → Option ℕ) (opened : List Opening) (count : ℕ) : Type 0 where
  pub rows_lead : (key : ℕ) (held : Held) → rows key ≡ Some held
      → (keys held.value ≡ Some key) × IsHandleValue held.value × Contains opened (record { order = held.order; key = key })
  pub values_lead : LeadToHandles rows keys
  pub rising : AreRising opened
  pub first : LeadsToFirst rows opened
  pub newest : NoneIsNewer rows opened
  pub as_many : count ≡ length (handles_of rows opened)
  pub few : length opened ≤ 2 * count + 1

-- They do so by the keys in rows and map together, and the map has no value that its own row has.
pub record IsInRows (rows : Rows) (foreign : ℕ → Option ℕ) (opened : List Opening) (count : ℕ) : Type 0 where
  pub kept : IsKept rows (key_in rows foreign) opened count
  pub apart : (value : ℕ) → has_value (rows (row_of value)) value ≡ true → foreign value ≡ None
