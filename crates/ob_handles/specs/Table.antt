-- A handle table, as the list of its handles in the order in which they were opened: what holds of every
-- one, which values are unused, and what is left when a handle is taken.
--
-- Sources: Windows Internals, Object Manager (handles and the process handle table); values are multiples
-- of four (Windows Driver Kit), their range is this profile.
use Rattle.std.specs.Prelude.{◌≡◌, ◌≢◌, ℕ, ◌<◌, ◌==◌, not, List, None, All, filter}
use Rattle.std.specs.List.{AllPairs, find}
use Rattle.ob_model.specs.declared.state.Held.{Held}
use Rattle.ob_model.specs.Grants.{IsHandleValue}

-- Every table's invariant: the orders of opening rise, no value is there twice, and each is a handle value.
pub record IsTable (handles : List Held) : Type 0 where
  pub rising : AllPairs (λ a b. a.order < b.order) handles
  pub apart : AllPairs (λ a b. a.value ≢ b.value) handles
  pub values : All (λ h. IsHandleValue h.value) handles

-- a handle value that no handle of the table has
abbrev pub IsUnused : List Held → ℕ → Type 0
IsUnused handles value = IsHandleValue value × (find (λ h. h.value == value) handles ≡ None)

-- the handles of other values
abbrev pub without : List Held → ℕ → List Held
without handles value = filter (λ h. not (h.value == value)) handles
