-- Publications, one after another: the rows after them, and how many entries of the journal they stand for.
--
-- Source: this profile.
use Rattle.std.specs.Prelude.{◌≡◌, ℕ, ◌+◌, List, [], ◌∷◌, ◌++◌}
use Rattle.ob_model.specs.declared.state.Row.{Row}
use Rattle.ob_rows.specs.Changes.{changed_by}
use Rattle.ob_published.specs.declared.publication.Publication.{Publication}

-- the rows after these publications, where they were these before
abbrev pub published_rows : List Row → List Publication → List Row
published_rows rows [] = rows
published_rows rows (p ∷ publications) = published_rows (changed_by rows p.changes.items) publications

-- how many entries of the journal these publications stand for
abbrev pub total_entries : List Publication → ℕ
total_entries [] = 0
total_entries (p ∷ publications) = p.entries + total_entries publications

-- ---- the laws

-- the rows after two lists of publications are those after the joined list
abbrev pub PublicationsFollow : Type 0
PublicationsFollow = (rows : List Row) (first later : List Publication) → published_rows rows (first ++ later) ≡ published_rows (published_rows rows first) later

-- and so with the entries
abbrev pub EntriesFollow : Type 0
EntriesFollow = (first later : List Publication) → total_entries (first ++ later) ≡ total_entries first + total_entries later
