-- The openings of a table's handles, in their order. One is stale where its handle was taken: then its row is
-- empty, or has a handle of another order.
--
-- Source: this profile.
use Rattle.std.specs.Prelude.{◌≡◌, ℕ, ◌<◌, ◌==◌, if◌then◌else◌, List, Option, Some, None, All, IsSome, slice_get}
use Rattle.std.specs.List.{AllPairs, Contains, filter_map}
use Rattle.std.specs.Option.{option_and_then}
use Rattle.ob_model.specs.declared.state.Held.{Held}
use Rattle.ob_handles.specs.declared.openings.Opening.{Opening}

-- rows: the handle under each key
abbrev pub Rows : Type 0
Rows = ℕ → Option Held

-- a row's handle, where it has this order
abbrev pub of_order : ℕ → Option Held → Option Held
of_order order None = None
of_order order (Some held) = if held.order == order then Some held else None

-- the handle that an opening leads to; none where it is stale
abbrev pub held_by : Rows → Opening → Option Held
held_by rows opening = of_order opening.order (rows opening.key)

-- the handles that openings lead to
abbrev pub handles_of : Rows → List Opening → List Held
handles_of rows opened = filter_map (held_by rows) opened

-- the orders of openings rise
abbrev pub AreRising : List Opening → Type 0
AreRising opened = AllPairs (λ a b. a.order < b.order) opened

-- the first opening leads to the first handle
abbrev pub LeadsToFirst : Rows → List Opening → Type 0
LeadsToFirst rows opened = slice_get (handles_of rows opened) 0 ≡ option_and_then (held_by rows) (slice_get opened 0)

-- an order above those of the handles is above those of all openings, the stale ones among them
abbrev pub NoneIsNewer : Rows → List Opening → Type 0
NoneIsNewer rows opened = (order : ℕ) → All (λ h. h.order < order) (handles_of rows opened) → All (λ o. o.order < order) opened

-- of the openings only stale ones went, and the others kept their order
pub record OnlyStaleGo (rows : Rows) (old new : List Opening) : Type 0 where
  pub handles : handles_of rows new ≡ handles_of rows old
  pub rising : AreRising old → AreRising new
  pub among : All (λ o. Contains old o) new
  pub others : (opening : Opening) → IsSome (held_by rows opening) → Contains old opening → Contains new opening
