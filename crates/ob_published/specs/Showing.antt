-- The publications of a namespace, recorded and shown.
--
-- Source: this profile.
use Rattle.std.specs.Prelude.{◌≡◌, ◌<◌, Bool, true, false, List, [], length}
use Rattle.logbook.specs.Pages.{Book}
use Rattle.ob_model.specs.declared.state.Row.{Row}
use Rattle.ob_rows.specs.declared.change.RowChange.{RowChange}
use Rattle.ob_published.specs.declared.publication.Publication.{Publication}
use Rattle.ob_published.specs.declared.shown.Shown.{Shown}
use Rattle.ob_published.specs.declared.shown.Op.{Op}
use Rattle.ob_published.specs.Publications.{published_rows}
use Rattle.ob_published.specs.Shown.{IsShown}
use Rattle.ob_published.specs.Ahead.{rows_ahead}

-- the publications that are recorded, and those that are shown
pub record Shows : Type 0 where
  pub published : List Publication
  pub shown : List Publication

-- The invariant between two calls: the copy that readers see is one of the rule; with the steps that it was asked for, and
-- the changes that are left, it has the rows of all that is recorded; where it is behind, fewer publications are shown
-- than are recorded, and where it isn't, nothing is pending and all is shown.
pub record IsShowing (book : Book) (opening : List Row) (leads : List Publication → Type 0) (start last : List Publication) (left : List RowChange) (behind : Bool) (shown : Shown) (pending : List Op) : Type 0 where
  pub from_none : start ≡ []
  pub rule : IsShown book opening leads shown
  pub ahead : rows_ahead shown pending left ≡ published_rows opening last
  pub lagging : behind ≡ true → length shown.seen.log < length last
  pub settled : behind ≡ false → (left ≡ []) × (pending ≡ []) × (shown.seen.log ≡ last)
