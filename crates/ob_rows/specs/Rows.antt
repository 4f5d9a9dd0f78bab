-- The rows of a namespace by themselves: their order, and what is found among them.
--
-- Sources: Windows Internals, Object Manager (object directories); OBJECT_ATTRIBUTES structure (Windows Driver
-- Kit), OBJ_CASE_INSENSITIVE. Stamps, and which of several matches is found, are this profile.
use Rattle.std.specs.Prelude.{◌≡◌, ℕ, ◌<◌, Bool, List, Option, filter}
use Rattle.std.specs.List.{AllPairs}
use Rattle.ob_model.specs.declared.state.Row.{Row}
use Rattle.ob_model.specs.State.{State}
use Rattle.ob_model.specs.Paths.{earliest, found, is_match}

-- the stamps of rows rise strictly
abbrev pub AreByStamp : List Row → Type 0
AreByStamp rows = AllPairs (λ a b. a.stamp < b.stamp) rows

-- what a component finds in a directory among these rows: of those in it whose names are equal, the one of least
-- stamp
abbrev pub found_among : List Row → ℕ → List ℕ → Bool → Option Row
found_among rows directory component fold = earliest (filter (is_match directory component fold) rows)

-- a state finds what is found among its rows
abbrev pub TableFindsWhatTheStateFinds : (K T F I : Type 0) → Type 0
TableFindsWhatTheStateFinds K T F I =
    (s : State K T F I) (directory : ℕ) (component : List ℕ) (fold : Bool)
    → found s directory component fold ≡ found_among s.rows directory component fold
