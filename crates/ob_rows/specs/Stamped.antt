-- Rows under their stamps, in any order, and by rising stamps.
--
-- Source: this profile.
use Rattle.std.specs.Prelude.{◌≡◌, ℕ, nat_eq, List, IfSome}
use Rattle.std.specs.List.{IsDistinct}
use Rattle.std.specs.Map.{keys_of, lookup, values_of}
use Rattle.ob_model.specs.declared.state.Row.{Row}
use Rattle.ob_model.specs.Sorted.{sorted_by}

-- the stamp of a row
abbrev pub stamp_of : Row → ℕ
stamp_of r = r.stamp

-- the rows, by rising stamps
abbrev pub rows_of : List (ℕ × Row) → List Row
rows_of entries = sorted_by stamp_of (values_of entries)

-- no stamp is there twice, and under each is a row that has it
pub record AreStamped (entries : List (ℕ × Row)) : Type 0 where
  pub distinct : IsDistinct nat_eq (keys_of entries)
  pub own : (stamp : ℕ) → IfSome (lookup (nat_eq stamp) entries) (λ r. r.stamp ≡ stamp)
