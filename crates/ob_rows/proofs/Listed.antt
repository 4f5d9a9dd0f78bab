-- The stamps of listed rows.
use Rattle.std.proofs.Common.{◌≡◌, ℕ, suc, ◌<◌, List, [], ◌∷◌, map, All, Contains, refl, arith}
use Rattle.std.proofs.lemmas.List.Elements.{All-nil, All-cons, All-weaker}
use Rattle.ob_model.specs.declared.state.Row.{Row}
use Rattle.ob_rows.specs.Stamped.{stamp_of}

-- the stamp of each row is among those of all
pub stamps_listed : (rows : List Row) → All (λ row. Contains (map stamp_of rows) row.stamp) rows
stamps_listed [] = All-nil (λ (row : Row). Contains (map stamp_of []) row.stamp)
stamps_listed (r ∷ rows) =
    All-cons (λ (row : Row). Contains (map stamp_of (r ∷ rows)) row.stamp) r rows (0, omega arith, refl)
    (All-weaker (λ (row : Row). Contains (map stamp_of rows) row.stamp) (λ row. Contains (map stamp_of (r ∷ rows)) row.stamp) (λ row at. (suc at.0, omega (arith, at.1), at.2)) rows (stamps_listed rows))
