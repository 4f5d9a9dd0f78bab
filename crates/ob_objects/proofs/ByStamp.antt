-- Rows by rising stamps.
use Rattle.std.proofs.Common.{List, [], ◌∷◌, arith}
use Rattle.std.proofs.lemmas.List.Kept.{AllPairs-cons}
use Rattle.ob_model.specs.declared.state.Row.{Row}
use Rattle.ob_model.proofs.Sorted as sorted
use Rattle.ob_objects.specs.Rows.{stamp_of, AreByStamp}

-- the row comes before the other, or has its stamp
abbrev pub ComesFirst : Row → Row → Type 0
ComesFirst = sorted.ComesFirst stamp_of

-- each row comes before those behind it, said one row at a time
abbrev pub Rises : List Row → Type 0
Rises = sorted.Rises stamp_of

-- rows that rise are by rising stamps
pub AreByStamp-from_Rises : (rows : List Row) → Rises rows → AreByStamp rows
AreByStamp-from_Rises [] rises = λ i j d before within. absurd (omega (arith, within))
AreByStamp-from_Rises (r ∷ rows) rises = AllPairs-cons ComesFirst r rows rises.0 (AreByStamp-from_Rises rows rises.1)
