-- How publications lead through a run: so many entries each, after which the rows are those before with its changes.
--
-- Source: this profile.
use Rattle.std.specs.Prelude.{◌≡◌, ℕ, ◌+◌, List, [], ◌∷◌, ◌++◌, length}
use Rattle.ob_model.specs.Procedures.{Procedures}
use Rattle.ob_model.specs.Run.{Entry, RunFrom}
use Rattle.ob_model.specs.State.{State}
use Rattle.ob_rows.specs.Changes.{changed_by}
use Rattle.ob_published.specs.declared.publication.Publication.{Publication}
use Rattle.ob_published.specs.Publications.{published_rows, total_entries}

module _ {K T F I : Type 0} (g : Procedures K T F I) where
  -- from the state s, after n entries, these publications lead through these entries to the state t
  abbrev pub Leads : State K T F I → ℕ → List Publication → List (Entry K) → State K T F I → Type 0
  Leads s n [] es t = (es ≡ []) × (t ≡ s)
  Leads s n (p ∷ ps) es t =
      (now : List (Entry K)) × (later : List (Entry K)) × (u : State K T F I) × (es ≡ now ++ later) × (length now ≡ p.entries) × RunFrom g s n now u
      × (u.rows ≡ changed_by s.rows p.changes.items) × Leads u (n + length now) ps later t

-- ---- the laws

module _ (K T F I : Type 0) where
  -- where publications lead through a run that goes on, one more leads on, if it has the changes of these entries
  abbrev pub OneMoreLeads : Type 0
  OneMoreLeads =
      (g : Procedures K T F I) (s : State K T F I) (n : ℕ) (ps : List Publication) (es : List (Entry K)) (t : State K T F I) → Leads g s n ps es t
      → (p : Publication) (now : List (Entry K)) (u : State K T F I) → RunFrom g t (n + length es) now u → length now ≡ p.entries
      → u.rows ≡ changed_by t.rows p.changes.items → Leads g s n (ps ++ p ∷ []) (es ++ now) u

  -- publications lead through a run, of as many entries as they stand for, and the rows after it are those that
  -- are published
  abbrev pub LeadsIsRun : Type 0
  LeadsIsRun =
      (g : Procedures K T F I) (s : State K T F I) (n : ℕ) (ps : List Publication) (es : List (Entry K)) (t : State K T F I) → Leads g s n ps es t
      → RunFrom g s n es t × (length es ≡ total_entries ps) × (t.rows ≡ published_rows s.rows ps)

  -- the first publications lead through the first entries
  abbrev pub FirstLead : Type 0
  FirstLead =
      (g : Procedures K T F I) (s : State K T F I) (n : ℕ) (ps later : List Publication) (es : List (Entry K)) (t : State K T F I) → Leads g s n (ps ++ later) es t
      → (first : List (Entry K)) × (rest : List (Entry K)) × (u : State K T F I) × (es ≡ first ++ rest) × Leads g s n ps first u × Leads g u (n + length first) later rest t
