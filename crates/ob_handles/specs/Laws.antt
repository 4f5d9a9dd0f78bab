-- The laws that the handles of a table are a finite map from values, with an order.
--
-- Source: this profile.
use Rattle.std.specs.Prelude.{◌≡◌, ◌≢◌, ℕ, ◌<◌, ◌==◌, List, [], ◌∷◌, ◌++◌, None, Some, All}
use Rattle.std.specs.List.{find}
use Rattle.ob_model.specs.declared.state.Held.{Held}
use Rattle.ob_handles.specs.Table.{IsTable, IsUnused, without}

-- a handle under an unused value is found under it
abbrev pub NewHandleIsFound : Type 0
NewHandleIsFound = (handles : List Held) (held : Held) → IsUnused handles held.value → find (λ h. h.value == held.value) (handles ++ held ∷ []) ≡ Some held

-- under another value the same is found as before
abbrev pub OthersAreFoundBeside : Type 0
OthersAreFoundBeside =
    (handles : List Held) (held : Held) (value : ℕ) → value ≢ held.value → find (λ h. h.value == value) (handles ++ held ∷ []) ≡ find (λ h. h.value == value) handles

-- where it is taken again the handles are as they were
abbrev pub NewHandleIsTakenBack : Type 0
NewHandleIsTakenBack = (handles : List Held) (held : Held) → IsUnused handles held.value → without (handles ++ held ∷ []) held.value ≡ handles

-- what was taken isn't found
abbrev pub TakenHandleIsGone : Type 0
TakenHandleIsGone = (handles : List Held) (value : ℕ) → find (λ h. h.value == value) (without handles value) ≡ None

-- under another value the same is found as before
abbrev pub OthersAreFoundWithout : Type 0
OthersAreFoundWithout =
    (handles : List Held) (taken value : ℕ) → value ≢ taken → find (λ h. h.value == value) (without handles taken) ≡ find (λ h. h.value == value) handles

-- the first handle was opened before all others
abbrev pub OldestIsBeforeAll : Type 0
OldestIsBeforeAll = (oldest : Held) (handles : List Held) → IsTable (oldest ∷ handles) → All (λ h. oldest.order < h.order) handles
