-- Knowledge of the history of publications.
--
-- Source: this profile.
use Rattle.std.specs.Prelude.{ℕ, ◌≡◌, List, length}
use Rattle.logbook.specs.Pages.{Book}
use Rattle.ob_published.specs.declared.publication.Publication.{Publication}
use Rattle.ob_published.specs.Publications.{total_entries}

-- the publications seen are of the book; they lead where publications lead, are so many, and stand for so many
-- entries
pub record IsKnown (book : Book) (leads : List Publication → Type 0) (count entries : ℕ) (seen : Book) (log : List Publication) : Type 0 where
  pub of_book : seen ≡ book
  pub counted : count ≡ length log
  pub summed : entries ≡ total_entries log
  pub led : leads log
