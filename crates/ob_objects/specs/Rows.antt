-- The rows of many directories in one list, by rising stamps.
--
-- Source: this profile.
use Rattle.std.specs.Prelude.{ℕ, ◌≤◌, List}
use Rattle.std.specs.List.{AllPairs}
use Rattle.ob_model.specs.declared.state.Row.{Row}
use Rattle.ob_model.specs.Sorted.{sorted_by}

-- the stamp of a row
abbrev pub stamp_of : Row → ℕ
stamp_of r = r.stamp

-- these rows by rising stamps; rows of one stamp stay in their order
abbrev pub by_stamp : List Row → List Row
by_stamp rows = sorted_by stamp_of rows

-- the stamps rise, or stay the same
abbrev pub AreByStamp : List Row → Type 0
AreByStamp rows = AllPairs (λ a b. a.stamp ≤ b.stamp) rows
