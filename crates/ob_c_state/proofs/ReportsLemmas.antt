-- The report of a page from the report of its first entry.
use Rattle.std.proofs.Common.{◌≡◌, ℕ, List, [], ◌∷◌, Some, length, nat_le, if◌then◌else◌, slice_get, subst}
use Rattle.ob_base.specs.declared.status.Status.{Status}
use Rattle.ob_model.specs.declared.entries.Listed.{Listed}
use Rattle.ob_c_state.specs.Reports.{Fills, ReportsFirst}
use Rattle.ob_numbers.specs.Types.{IsTypeNumber}

one_entry : (a b : Listed) → Some a ≡ Some b → a ≡ b
one_entry a b e = cc

module _ (status : ℕ) (ended : Status) (behind context context' : ℕ) (old new : List ℕ) (reported type : ℕ) where
  pub reports_first : (entries : List Listed) (entry : Listed) → Some entry ≡ slice_get entries 0 → Fills status entry.name ended old new reported → IsTypeNumber entry.type_name type
      → context' ≡ (if nat_le (length entry.name) (length old) then behind else context) → ReportsFirst status ended entries behind context context' old new reported type
  reports_first [] entry is fills report moves = cc
  reports_first (e ∷ es) entry is fills report moves =
      subst (λ (x : Listed). ReportsFirst status ended (x ∷ es) behind context context' old new reported type) (one_entry entry e is) (fills, report, moves)
