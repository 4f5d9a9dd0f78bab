-- A copy of the rows of a namespace that catches up with them.
--
-- Source: this profile.
use Rattle.std.specs.Prelude.{◌≡◌, ℕ, ◌<◌, ◌≤◌, List, All, AllPairs, Contains}
use Rattle.ob_model.specs.declared.state.Row.{Row}
use Rattle.ob_model.specs.State.{State}
use Rattle.ob_rows.specs.declared.change.RowChange.{RowChange}
use Rattle.ob_rows.specs.Changes.{changed_by}

-- the rows that were copied; the id from which on objects were not looked at yet; and the changes that were made of the
-- rows and not taken yet
pub record Mirrored : Type 0 where
  pub rows : List Row
  pub next : ℕ
  pub pending : List RowChange

-- the names of a state are in order, as they are in every state of a run: ids and stamps were drawn, and rows rise by ids
pub record AreInOrder {K T F I : Type 0} (s : State K T F I) : Type 0 where
  pub below : All (λ r. (r.object < s.next_id) × (r.stamp < s.next_stamp)) s.rows
  pub rising : AllPairs (λ a b. a.object < b.object) s.rows

-- Rows that were copied follow a state, of which the objects up to the next one were looked at: of these they have each row of the state, and they have none of others; they
-- rise by ids, were drawn, and each was drawn before the rows of objects of greater ids.
pub record Follows {K T F I : Type 0} (rows : List Row) (next : ℕ) (s : State K T F I) : Type 0 where
  pub known : All (λ r. r.object < next → Contains rows r) s.rows
  pub looked_at : All (λ q. q.object < next) rows
  pub drawn : next ≤ s.next_id
  pub rising : AllPairs (λ a b. a.object < b.object) rows
  pub stamps : All (λ q. q.stamp < s.next_stamp) rows
  pub before : All (λ q. All (λ r. q.object < r.object → q.stamp < r.stamp) s.rows) rows

-- the changes of the new one lead from the same rows to its own as those of the old one did
abbrev pub LeadsOn : Mirrored → Mirrored → Type 0
LeadsOn old new = (base : List Row) → changed_by base old.pending ≡ old.rows → changed_by base new.pending ≡ new.rows
