-- The state under the lock of a shared namespace: a journal that is a run, and the state to which it leads.
--
-- Source: this profile.
use Rattle.std.specs.Prelude.{◌≡◌, ℕ, ◌+◌, ◌≤◌, length}
use Rattle.ob_entries.specs.Segments.{most_entries}
use Rattle.ob_model.specs.Procedures.{Procedures}
use Rattle.ob_model.specs.Run.{Run}
use Rattle.ob_model.specs.State.{State}
use Rattle.ob_segments.specs.Journal.{Journal, whole}
use Rattle.ob_locked.specs.Places.{places_for}

-- the set's value at the opening, the journal since then, and the state
pub record History (K T F I : Type 0) : Type 0 where
  pub first : T
  pub journal : Journal K
  pub state : State K T F I

-- The invariant: the whole journal is a run from the opening state to this one; the pending opens have reserved so many
-- places of the open segment, which with those that are used are at most 1,048,576 and have their memory; and so many steps were
-- counted as there are entries.
pub record IsKept {K T F I : Type 0} (g : Procedures K T F I) (h : History K T F I) (held places total : ℕ) : Type 0 where
  pub run : Run g h.first (whole h.journal) h.state
  pub reserved : held ≡ places_for h.state.pending
  pub few : length h.journal.unsealed + held ≤ most_entries
  pub room : length h.journal.unsealed + held ≤ places
  pub counted : total ≡ length (whole h.journal)
