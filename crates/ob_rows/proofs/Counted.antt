-- Stamps that are listed as gone account for all that went where the counts agree.
use Rattle.std.proofs.Common.{◌≡◌, ◌≢◌, ◌∙◌, ℕ, ◌+◌, ◌<◌, ◌≤◌, Bool, true, false, cond, not, ◌==◌, List, [], ◌∷◌, ◌++◌, filter, find, length, map, All, None, Some, refl, ap, sym, subst, arith}
use Rattle.std.specs.List.{AllPairs}
use Rattle.std.proofs.lemmas.Bool.{ne_eqb}
use Rattle.std.proofs.lemmas.List.Elements.{All-head, All-tail}
use Rattle.std.proofs.lemmas.List.Kept.{AllPairs-filter}
use Rattle.ob_model.proofs.Sorted.{pairs_head, pairs_tail}
use Rattle.ob_model.specs.declared.state.Row.{Row}
use Rattle.ob_rows.specs.declared.change.RowChange.TheVariants.{Added, Gone}
use Rattle.ob_rows.specs.Changes.{CountsAccount, changed_by}
use Rattle.ob_rows.specs.Rows.{AreByStamp}
use Rattle.ob_rows.proofs.Rising.{Before, found_without, has_other, has_stamp, others_stay}

-- ---- rows that come

append_none : (rows : List Row) → rows ++ [] ≡ rows
append_none [] = refl
append_none (r ∷ rows) = ap (λ xs. r ∷ xs) (append_none rows)

append_more : (rows : List Row) (r : Row) (later : List Row) → (rows ++ r ∷ []) ++ later ≡ rows ++ r ∷ later
append_more [] r later = refl
append_more (x ∷ rows) r later = ap (λ xs. x ∷ xs) (append_more rows r later)

all_added : (rows later : List Row) → changed_by rows (map Added later) ≡ rows ++ later
all_added rows [] = sym (append_none rows)
all_added rows (r ∷ later) = all_added (rows ++ r ∷ []) later ∙ append_more rows r later

-- ---- rows that stay

module _ (stays : Row → Bool) where
  fewer_stay : (rows : List Row) → length (filter stays rows) ≤ length rows
  fewer_stay [] = omega arith
  fewer_stay (r ∷ rows) = go (stays r) (fewer_stay rows)
    where
      go : (b : Bool) → length (filter stays rows) ≤ length rows → length (cond b (r ∷ filter stays rows) (filter stays rows)) ≤ length (r ∷ rows)
      go true more = omega (arith, more)
      go false more = omega (arith, more)

  all_stay : (rows : List Row) → length (filter stays rows) ≡ length rows → filter stays rows ≡ rows
  all_stay [] same = refl
  all_stay (r ∷ rows) same = go (stays r) same (all_stay rows)
    where
      go : (b : Bool) → length (cond b (r ∷ filter stays rows) (filter stays rows)) ≡ length (r ∷ rows) → (length (filter stays rows) ≡ length rows → filter stays rows ≡ rows)
          → cond b (r ∷ filter stays rows) (filter stays rows) ≡ r ∷ rows
      go true same more = ap (λ xs. r ∷ xs) (more (omega (arith, same)))
      go false same more = absurd (omega (arith, same, fewer_stay rows))

  -- with the row of a stamp that doesn't stay goes one row, and none of those that do
  module _ (stamp : ℕ) where
    stay_without : (rows : List Row) (gone : Row) → AreByStamp rows → find (has_stamp stamp) rows ≡ Some gone → stays gone ≡ false
        → filter stays (filter (has_other stamp) rows) ≡ filter stays rows
    stay_without [] gone rising at leaves = refl
    stay_without (r ∷ rows) gone rising at leaves = go (has_stamp stamp r) refl at (stay_without rows gone (pairs_tail Before r rows rising))
      where
        go : (b : Bool) → has_stamp stamp r ≡ b → cond b (Some r) (find (has_stamp stamp) rows) ≡ Some gone
            → (find (has_stamp stamp) rows ≡ Some gone → stays gone ≡ false → filter stays (filter (has_other stamp) rows) ≡ filter stays rows)
            → filter stays (cond (not b) (r ∷ filter (has_other stamp) rows) (filter (has_other stamp) rows)) ≡ filter stays (r ∷ rows)
        go true here at more =
            let is : r ≡ gone = cc in
            ap (filter stays) (others_stay stamp r rows rising here)
            ∙ sym (ap (λ b. cond b (r ∷ filter stays rows) (filter stays rows)) (ap stays is ∙ leaves))
        go false other at more = kept (stays r) (more at leaves)
          where
            kept : (b : Bool) → filter stays (filter (has_other stamp) rows) ≡ filter stays rows
                → cond b (r ∷ filter stays (filter (has_other stamp) rows)) (filter stays (filter (has_other stamp) rows)) ≡ cond b (r ∷ filter stays rows) (filter stays rows)
            kept true same = ap (λ xs. r ∷ xs) same
            kept false same = same

    one_fewer : (rows : List Row) (gone : Row) → AreByStamp rows → find (has_stamp stamp) rows ≡ Some gone → length (filter (has_other stamp) rows) + 1 ≡ length rows
    one_fewer [] gone rising at = cc
    one_fewer (r ∷ rows) gone rising at = go (has_stamp stamp r) refl at (one_fewer rows gone (pairs_tail Before r rows rising))
      where
        go : (b : Bool) → has_stamp stamp r ≡ b → cond b (Some r) (find (has_stamp stamp) rows) ≡ Some gone
            → (find (has_stamp stamp) rows ≡ Some gone → length (filter (has_other stamp) rows) + 1 ≡ length rows)
            → length (cond (not b) (r ∷ filter (has_other stamp) rows) (filter (has_other stamp) rows)) + 1 ≡ length (r ∷ rows)
        go true here at more = omega (arith, ap length (others_stay stamp r rows rising here))
        go false other at more = omega (arith, more at)

  -- ---- all of it

  -- the row of this stamp was there, and doesn't stay
  abbrev Left : List Row → ℕ → Type 0
  Left rows stamp = (r : Row) × (find (has_stamp stamp) rows ≡ Some r) × (stays r ≡ false)

  accounts : (rows later : List Row) (gone : List ℕ) → AreByStamp rows → AllPairs (λ a b. a ≢ b) gone → All (Left rows) gone
      → length (filter stays rows) + length gone ≡ length rows → changed_by rows (map Gone gone ++ map Added later) ≡ filter stays rows ++ later
  accounts rows later [] rising apart left counted = all_added rows later ∙ ap (λ xs. xs ++ later) (sym (all_stay rows (omega (arith, counted))))
  accounts rows later (stamp ∷ gone) rising apart left counted =
      let here = All-head (Left rows) stamp gone left in
      let rest = filter (has_other stamp) rows in
      let same : filter stays rest ≡ filter stays rows = stay_without stamp rows here.0 rising here.1 here.2 in
      let fewer : length rest + 1 ≡ length rows = one_fewer stamp rows here.0 rising here.1 in
      accounts rest later gone (AllPairs-filter Before (has_other stamp) rows rising) (pairs_tail (λ a b. a ≢ b) stamp gone apart)
      (λ k d below. still_left (pairs_head (λ a b. a ≢ b) stamp gone apart k d below) (All-tail (Left rows) stamp gone left k d below))
      (omega (arith, ap length same, fewer, counted))
      ∙ ap (λ xs. xs ++ later) same
    where
      still_left : {other : ℕ} → stamp ≢ other → Left rows other → Left (filter (has_other stamp) rows) other
      still_left {other} differs there = (there.0, found_without stamp other rows ∙ ap (λ b. cond b None (find (has_stamp other) rows)) (ne_eqb stamp other differs) ∙ there.1, there.2)

pub counts_account : CountsAccount
counts_account rows later stays gone rising apart left counted = accounts stays rows later gone rising apart left counted
