-- The rule of the book, and its steps.
--
-- Source: this profile.
use Rattle.std.specs.Prelude.{ℕ, ◌≡◌, ◌==◌, true, List, [], ◌∷◌, ◌++◌, length, MatchBool}
use Rattle.logbook.specs.Pages.{Cell, Step, View, Book, Named}
use Rattle.ob_published.specs.declared.publication.Publication.{Publication}

-- the first word is the length of the history. A book has two words, of which this one leaves the second at 0
pub record IsKept (cells : List Cell) (log : List Publication) : Type 0 where
  pub words : cells ≡ (length log, true) ∷ (0, true) ∷ []

abbrev pub head_of : Book → Named
head_of b = record { tracked = true; key = 0; book = b }

-- where the length was as expected, the publication was added to all that had been seen
abbrev pub Adds : Step Publication → View Publication ℕ → ℕ → View Publication ℕ → Type 0
Adds s v found w = MatchBool (found == s.old) (w.0 ≡ v.0 ++ s.ask ∷ []) (Unit {0})
