-- The publisher of the history under the lock, and its copy of that history's rows.
--
-- Source: this profile.
use Rattle.std.specs.Prelude.{◌≡◌, ◌⊎◌, ℕ, List, ◌++◌, length}
use Rattle.ob_base.specs.declared.fault.Fault.{Fault}
use Rattle.ob_base.specs.declared.fault.Fault.TheVariants.{Memory, Refused}
use Rattle.ob_base.specs.declared.status.Status.TheVariants.{InvalidParameter}
use Rattle.ob_model.specs.declared.state.Row.{Row}
use Rattle.ob_model.specs.Opening.{opening}
use Rattle.ob_model.specs.Procedures.{Procedures}
use Rattle.ob_model.specs.Run.{Entry, Run, RunFrom}
use Rattle.ob_model.specs.State.{State}
use Rattle.ob_rows.specs.Changes.{changed_by}
use Rattle.ob_mirror.specs.Mirrored.{Mirrored, Follows}
use Rattle.ob_published.specs.declared.publication.Publication.{Publication}
use Rattle.ob_published.specs.Leads.{Leads}
use Rattle.ob_segments.specs.Journal.{whole}
use Rattle.ob_locked.specs.Locked.{History}
use Rattle.ob_locked.specs.Passed.{Passed, IsKnown}

-- what is under the lock: the history, the publications that are recorded, and those that are shown
pub record Guarding (K T F I : Type 0) : Type 0 where
  pub history : History K T F I
  pub recorded : List Publication
  pub shown : List Publication

-- publications lead through a run of the machine, from an opening state
abbrev pub LeadThroughRun : {K T F I : Type 0} → Procedures K T F I → List Publication → Type 0
LeadThroughRun {K} {T} {F} {I} g publications =
    (first : T) × (entries : List (Entry K)) × (t : State K T F I) × Leads g (opening first) 0 publications entries t

-- The name of a namespace of this machine: its publications lead through a run, all that do may be its publications, and
-- its rows before the first of them are those of the opening state.
pub record IsNamed {K T F I : Type 0} (g : Procedures K T F I) (first_rows : List Row) (leads : List Publication → Type 0) : Type 0 where
  pub says : (publications : List Publication) → leads publications → LeadThroughRun g publications
  pub may : (publications : List Publication) → LeadThroughRun g publications → leads publications
  pub rows : (first : T) → first_rows ≡ (opening {K = K} {T = T} {F = F} {I = I} first).rows

-- publications are those of a history: they lead through its whole journal
abbrev pub AreOf : {K T F I : Type 0} → Procedures K T F I → List Publication → History K T F I → Type 0
AreOf g publications h = Leads g (opening h.first) 0 publications (whole h.journal) h.state

-- This holds of a publisher and a history: the publications that are recorded lead through its first entries, and the other entries lead
-- from there to its state; the changes of the copy that are not published yet lead from the rows there to the copy's; and the copy follows the
-- state.
pub record Keeps {K T F I : Type 0} (g : Procedures K T F I) (first_rows : List Row) (leads : List Publication → Type 0) (mirror : Mirrored) (recorded : List Publication) (h : History K T F I) : Type 0 where
  pub named : IsNamed g first_rows leads
  pub done : List (Entry K)
  pub since : List (Entry K)
  pub middle : State K T F I
  pub journal : whole h.journal ≡ done ++ since
  pub lead : Leads g (opening h.first) 0 recorded done middle
  pub onward : RunFrom g middle (length done) since h.state
  pub changes : changed_by middle.rows mirror.pending ≡ mirror.rows
  pub follows : Follows mirror.rows mirror.next h.state

-- a publish shows the publications of this history, which is that of a run, with the pass's last receipt at its number
abbrev pub IsPublishedOf : {K T F I : Type 0} → Procedures K T F I → Passed K → List Publication → History K T F I → Type 0
IsPublishedOf g p publications h = Run g h.first (whole h.journal) h.state × IsKnown (whole h.journal) p.receipts × AreOf g publications h

-- The fault of a publish: INVALID_PARAMETER where the pass is a stranger's or nothing is published here, else out of memory.
abbrev pub IsUnpublished : {K T F I : Type 0} → Procedures K T F I → Passed K → Type 0 → Fault → Type 0
IsUnpublished {K} {T} {F} {I} g p publishes fault =
    (h : History K T F I) × Run g h.first (whole h.journal) h.state
    × (((fault ≡ Refused InvalidParameter) × ((IsKnown (whole h.journal) p.receipts → ⊥) ⊎ (publishes → ⊥))) ⊎ ((fault ≡ Memory) × IsKnown (whole h.journal) p.receipts × publishes))
