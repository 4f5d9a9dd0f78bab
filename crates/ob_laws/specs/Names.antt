-- How the names of objects go through a run: they come with new objects alone, and once gone never come again.
--
-- Source: Windows Internals, Object Manager (object names, object retention).
use Rattle.std.specs.Prelude.{ℕ, ◌<◌, ◌≤◌, ◌⊎◌, List, All, AllPairs, Contains}
use Rattle.ob_model.specs.State.{State}
use Rattle.ob_model.specs.Procedures.{Procedures}
use Rattle.ob_model.specs.Run.{Entry, Run, RunFrom}

-- The names of an earlier state that a state keeps. Ids and stamps were drawn since; the rows rise by the ids of their
-- objects, and all their ids and stamps were drawn; and each row is one of the earlier state's, or its id and its stamp
-- were drawn since.
pub record KeepsNames {K T F I : Type 0} (s t : State K T F I) : Type 0 where
  pub drawn : (s.next_id ≤ t.next_id) × (s.next_stamp ≤ t.next_stamp)
  pub below : All (λ r. (r.object < t.next_id) × (r.stamp < t.next_stamp)) t.rows
  pub rising : AllPairs (λ a b. a.object < b.object) t.rows
  pub there : All (λ r. Contains s.rows r ⊎ ((s.next_id ≤ r.object) × (s.next_stamp ≤ r.stamp))) t.rows

-- in each run, each state keeps so much of the names of each state before
abbrev pub NamesOnlyGo : (K T F I : Type 0) → Type 0
NamesOnlyGo K T F I =
    (g : Procedures K T F I) (first : T) (before after : List (Entry K)) (s t : State K T F I) (n : ℕ)
    → Run g first before s → RunFrom g s n after t → KeepsNames s t
