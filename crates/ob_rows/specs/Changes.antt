-- Changes of the rows of a namespace, one after another.
--
-- Source: this profile.
use Rattle.std.specs.Prelude.{◌≡◌, ◌≢◌, ℕ, ◌+◌, ◌<◌, Bool, true, false, ◌==◌, not, List, [], ◌∷◌, ◌++◌, Some, All, filter, length, map}
use Rattle.std.specs.List.{AllPairs, find}
use Rattle.ob_model.specs.declared.state.Row.{Row}
use Rattle.ob_rows.specs.declared.change.RowChange.{RowChange}
use Rattle.ob_rows.specs.declared.change.RowChange.TheVariants.{Added, Gone}
use Rattle.ob_rows.specs.Rows.{AreByStamp}

-- the rows after one change: a row that is added comes after all others, and with a stamp that is taken away goes
-- the row that has it
abbrev pub after_change : List Row → RowChange → List Row
after_change rows (Added row) = rows ++ row ∷ []
after_change rows (Gone stamp) = filter (λ r. not (r.stamp == stamp)) rows

-- the rows after changes, one after another
abbrev pub changed_by : List Row → List RowChange → List Row
changed_by rows [] = rows
changed_by rows (change ∷ changes) = changed_by (after_change rows change) changes

-- the change may follow these rows: a row that is added has a stamp above all of theirs
abbrev pub Fits : List Row → RowChange → Type 0
Fits rows (Added row) = All (λ r. r.stamp < row.stamp) rows
Fits rows (Gone stamp) = Unit {0}

-- and so may changes, one after another
abbrev pub AllFit : List Row → List RowChange → Type 0
AllFit rows [] = Unit {0}
AllFit rows (change ∷ changes) = Fits rows change × AllFit (after_change rows change) changes

-- whether the change takes a stamp away
abbrev pub is_gone : RowChange → Bool
is_gone (Added row) = false
is_gone (Gone stamp) = true

-- ---- the laws

-- the changes of two lists, one after the other, are those of the joined list
abbrev pub ChangesFollow : Type 0
ChangesFollow = (rows : List Row) (first later : List RowChange) → changed_by rows (first ++ later) ≡ changed_by (changed_by rows first) later

-- a stamp that no row has takes nothing away
abbrev pub GoneOfNoRow : Type 0
GoneOfNoRow = (rows : List Row) (stamp : ℕ) → All (λ r. r.stamp ≢ stamp) rows → changed_by rows (Gone stamp ∷ []) ≡ rows

-- a row that is added and taken away again leaves the others
abbrev pub GoneUndoesAdded : Type 0
GoneUndoesAdded = (rows : List Row) (row : Row) → Fits rows (Added row) → changed_by rows (Added row ∷ Gone row.stamp ∷ []) ≡ rows

-- rows by rising stamps stay so
abbrev pub ChangesKeepRising : Type 0
ChangesKeepRising = (rows : List Row) (changes : List RowChange) → AllFit rows changes → AreByStamp rows → AreByStamp (changed_by rows changes)

-- Stamps that are listed as gone account for all that went as soon as the counts agree: where some of these rows stay and
-- others come, no stamp is listed twice, each is that of a row that doesn't stay, and they are as many as the rows that
-- don't, the rows that stay and those that come are the rows after the changes.
abbrev pub CountsAccount : Type 0
CountsAccount =
    (rows later : List Row) (stays : Row → Bool) (gone : List ℕ) → AreByStamp rows → AllPairs (λ a b. a ≢ b) gone
    → All (λ stamp. (r : Row) × (find (λ x. x.stamp == stamp) rows ≡ Some r) × (stays r ≡ false)) gone
    → length (filter stays rows) + length gone ≡ length rows → changed_by rows (map Gone gone ++ map Added later) ≡ filter stays rows ++ later
