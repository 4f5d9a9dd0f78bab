-- Parses as they are kept: each under its ticket, by rising tickets.
--
-- Source: this profile.
use Rattle.std.specs.Prelude.{◌≡◌, ℕ, List, All}
use Rattle.std.specs.List.Sorted.{IsStrictlySortedBy}
use Rattle.std.specs.Map.{keys_of}
use Rattle.std.specs.Ordering.{nat_cmp}
use Rattle.ob_types.specs.Parse.{ToRun}

-- each parse is under its own ticket, and the tickets rise
pub record AreKept {F : Type 0} (entries : List (ℕ × ToRun F)) : Type 0 where
  pub rising : IsStrictlySortedBy nat_cmp (keys_of entries)
  pub own : All (λ e. e.1.ticket ≡ e.0) entries
