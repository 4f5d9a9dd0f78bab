-- The state of a seat between its lines.
--
-- Source: this profile.
use Rattle.std.specs.Prelude.{◌≡◌, ◌≢◌, ◌<◌, ℕ, ◌==◌, not, List, filter, All}
use Rattle.std.specs.List.Sorted.{IsStrictlySortedBy}
use Rattle.std.specs.Map.{keys_of}
use Rattle.std.specs.Ordering.{nat_cmp}
use Rattle.ob_requests.specs.Variables.{Variables}
use Rattle.ob_effects.specs.Kept.{AreApart}
use Rattle.ob_effects.specs.Waiting.{AreTickets}

-- these are all tickets under variables, and no two variables have the same
pub record AreHeld (under : ℕ → List ℕ → ℕ) (tickets : List ℕ) : Type 0 where
  pub listed : AreTickets under tickets
  pub apart : AreApart under

-- parses as they are kept: each under its own ticket, and the tickets rise
pub record AreKept {P : Type 0} (ticket_of : P → ℕ) (entries : List (ℕ × P)) : Type 0 where
  pub rising : IsStrictlySortedBy nat_cmp (keys_of entries)
  pub own : All (λ e. ticket_of e.1 ≡ e.0) entries

-- a ticket that may be kept after these: it isn't 0, and above them all
abbrev pub IsNext : List ℕ → ℕ → Type 0
IsNext tickets n = (n ≢ 0) × All (λ k. k < n) tickets

-- tickets without one of them
abbrev pub without : ℕ → List ℕ → List ℕ
without n tickets = filter (λ k. not (k == n)) tickets

-- the variables for another seat: the same, but under none of them an open waits
abbrev pub for_worker : Variables → Variables
for_worker variables = record variables { tickets = λ process variable. 0 }
