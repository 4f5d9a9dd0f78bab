-- The passes of a namespace that was just opened.
--
-- Source: this profile.
use Rattle.std.specs.Prelude.{ℕ, List, [], map}
use Rattle.std.specs.List.{range_with_len}
use Rattle.ob_locked.specs.Passed.{Passed}

-- the most seats, which is how many parts a ledger has
abbrev pub most_seats : ℕ
most_seats = 1024

-- a pass of a seat, without a receipt
abbrev pub fresh_pass : {K : Type 0} → ℕ → Passed K
fresh_pass seat = record { seat = seat; receipts = [] }

-- the passes of so many seats: at each place that of the seat of its number
abbrev pub fresh_passes : {K : Type 0} → ℕ → List (Passed K)
fresh_passes seats = map fresh_pass (range_with_len 0 seats)
