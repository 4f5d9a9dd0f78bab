-- Pending opens as they are kept: each under its ticket, with the number of those that pin each object.
--
-- Sources: Windows Internals, Object Manager (parse methods; object retention: what is referred to stays);
-- the tickets, and that the pins are counted, are this profile.
use Rattle.std.specs.Prelude.{◌≡◌, ℕ, ◌==◌, List, count_by, All}
use Rattle.std.specs.List.Sorted.{IsStrictlySortedBy}
use Rattle.std.specs.Map.{keys_of, values_of}
use Rattle.std.specs.Ordering.{nat_cmp}
use Rattle.ob_model.specs.declared.state.PendingOpen.{PendingOpen}
use Rattle.ob_handles.specs.Counts.{Numbers, count_of}

-- pending opens, by rising tickets, as the abstract state has them
abbrev pub Opens : Type 0 → Type 0
Opens K = List (PendingOpen K)

-- pending opens under the numbers that a map has for them
abbrev pub Entries : Type 0 → Type 0
Entries K = List (ℕ × PendingOpen K)

-- how many opens pin an object
abbrev pub pins_of : {K : Type 0} → Opens K → ℕ → ℕ
pins_of opens object = count_by (λ x. x.object == object) opens

-- The invariant of the opens in their map, and of the counts of what they pin: each open is under its own
-- ticket, the tickets rise, and the counts are right.
pub record AreKept {K : Type 0} (entries : Entries K) (pins : Numbers) : Type 0 where
  pub rising : IsStrictlySortedBy nat_cmp (keys_of entries)
  pub own : All (λ e. e.1.ticket ≡ e.0) entries
  pub counts : (object : ℕ) → count_of pins object ≡ pins_of (values_of entries) object
