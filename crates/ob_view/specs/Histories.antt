-- The history whose state a viewer sees.
--
-- Source: this profile.
use Rattle.std.specs.Prelude.{◌≡◌, ℕ, List, length}
use Rattle.ob_model.specs.declared.state.Row.{Row}
use Rattle.ob_model.specs.Procedures.{Procedures}
use Rattle.ob_model.specs.Run.{Run}
use Rattle.ob_segments.specs.Journal.{whole}
use Rattle.ob_locked.specs.Locked.{History}
use Rattle.ob_published.specs.declared.publication.Publication.{Publication}
use Rattle.ob_published.specs.Publications.{published_rows, total_entries}
use Rattle.ob_shared.specs.Publisher.{AreOf}

-- the history is that of a run, and has these published rows and so many entries
pub record IsSeen {K T F I : Type 0} (g : Procedures K T F I) (published : List Row) (entries : ℕ) (h : History K T F I) : Type 0 where
  pub run : Run g h.first (whole h.journal) h.state
  pub rows : h.state.rows ≡ published
  pub number : length (whole h.journal) ≡ entries

-- the publications are those of a history that has the rows which they publish, and as many entries as they stand for
abbrev pub SeesHistory : {K T F I : Type 0} → Procedures K T F I → List Row → List Publication → Type 0
SeesHistory {K} {T} {F} {I} g opening publications =
    (h : History K T F I) × AreOf g publications h × IsSeen g (published_rows opening publications) (total_entries publications) h
