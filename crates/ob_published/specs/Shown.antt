-- The copy that viewers read: how it follows the publications, and its invariant when readers see it.
--
-- Source: this profile.
use Rattle.std.specs.Prelude.{ℕ, ◌≡◌, List, fold, length}
use Rattle.logbook.specs.Pages.{Book}
use Rattle.ob_model.specs.declared.state.Row.{Row}
use Rattle.ob_rows.specs.Changes.{after_change}
use Rattle.ob_published.specs.declared.publication.Publication.{Publication}
use Rattle.ob_published.specs.declared.shown.Shown.{Shown}
use Rattle.ob_published.specs.declared.shown.Op.{Op}
use Rattle.ob_published.specs.declared.shown.Op.TheVariants.{Change, Reached}
use Rattle.ob_published.specs.Publications.{published_rows, total_entries}

-- the copy after one step
abbrev pub stepped : Shown → Op → Shown
stepped shown (Change change) = record shown { rows = after_change shown.rows change }
stepped shown (Reached reach) = record shown { publications = reach.publications; entries = reach.entries; seen = reach.seen }

-- and after several
abbrev pub after_steps : Shown → List Op → Shown
after_steps shown steps = fold stepped shown steps

-- the copy has the rows after the publications that it knows, which are of the book and lead where publications
-- lead; these are so many, and stand for so many entries
pub record IsShown (book : Book) (opening : List Row) (leads : List Publication → Type 0) (shown : Shown) : Type 0 where
  pub of_book : shown.seen.book ≡ book
  pub counted : shown.publications ≡ length shown.seen.log
  pub summed : shown.entries ≡ total_entries shown.seen.log
  pub rows : shown.rows ≡ published_rows opening shown.seen.log
  pub led : leads shown.seen.log
