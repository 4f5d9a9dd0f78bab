-- The laws of changes.
use Rattle.std.proofs.Common.{◌≡◌, ◌≢◌, ◌∙◌, false, cond, not, List, [], ◌∷◌, ◌++◌, filter, refl, ap, eq-eqb}
use Rattle.std.proofs.lemmas.Bool.{ne_eqb}
use Rattle.std.proofs.lemmas.List.Elements.{All-weaker, filter-append}
use Rattle.std.proofs.lemmas.List.Kept.{AllPairs-filter}
use Rattle.std.proofs.lemmas.List.Quantifiers.{all_pairs_push}
use Rattle.ob_model.specs.declared.state.Row.{Row}
use Rattle.ob_rows.specs.declared.change.RowChange.{RowChange}
use Rattle.ob_rows.specs.declared.change.RowChange.TheVariants.{Added, Gone}
use Rattle.ob_rows.specs.Changes.{ChangesFollow, ChangesKeepRising, Fits, GoneOfNoRow, GoneUndoesAdded, after_change}
use Rattle.ob_rows.specs.Rows.{AreByStamp}
use Rattle.ob_rows.proofs.Rising.{Before, has_other, has_stamp, none-below, stay-none}

pub follow : ChangesFollow
follow rows [] later = refl
follow rows (c ∷ first) later = follow (after_change rows c) first later

pub gone_of_none : GoneOfNoRow
gone_of_none rows stamp other =
    stay-none stamp rows (All-weaker (λ r. r.stamp ≢ stamp) (λ r. has_stamp stamp r ≡ false) (λ r differs. ne_eqb r.stamp stamp differs) rows other)

append_none : (rows : List Row) → rows ++ [] ≡ rows
append_none [] = refl
append_none (r ∷ rows) = ap (λ xs. r ∷ xs) (append_none rows)

pub undone : GoneUndoesAdded
undone rows r newest =
    filter-append (has_other r.stamp) rows (r ∷ [])
    ∙ ap (λ xs. xs ++ filter (has_other r.stamp) (r ∷ [])) (stay-none r.stamp rows (none-below r.stamp rows newest))
    ∙ ap (λ b. rows ++ cond (not b) (r ∷ []) []) (eq-eqb r.stamp r.stamp refl)
    ∙ append_none rows

one_keeps : (rows : List Row) (c : RowChange) → Fits rows c → AreByStamp rows → AreByStamp (after_change rows c)
one_keeps rows (Added r) newest rising = all_pairs_push Before rows r rising newest
one_keeps rows (Gone stamp) fits rising = AllPairs-filter Before (has_other stamp) rows rising

pub keep_rising : ChangesKeepRising
keep_rising rows [] fit rising = rising
keep_rising rows (c ∷ changes) fit rising = keep_rising (after_change rows c) changes fit.1 (one_keeps rows c fit.0 rising)
