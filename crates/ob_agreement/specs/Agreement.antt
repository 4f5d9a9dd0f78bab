-- Whether the passes of a namespace and its journal agree once all callers have ended.
--
-- Source: this profile.
use Rattle.std.specs.Prelude.{◌≡◌, ◌⊎◌, ℕ, ◌==◌, min, ◌<◌, ◌≤◌, List, [], ◌∷◌, ◌++◌, filter, Option, None, Some, MatchOption, slice_get}
use Rattle.std.specs.Option.{option_map_or}
use Rattle.ob_model.specs.Run.{Entry}
use Rattle.ob_agreement.specs.declared.compared.Mismatch.{Mismatch}
use Rattle.ob_locked.specs.Passed.{Passed}

-- the entries of a seat, in their order
abbrev pub entries_of : {K : Type 0} → ℕ → List (Entry K) → List (Entry K)
entries_of seat journal = filter (λ e. e.seat == seat) journal

-- the passes of a seat
abbrev pub passes_of : {K : Type 0} → ℕ → List (Passed K) → List (Passed K)
passes_of seat passes = filter (λ p. p.seat == seat) passes

-- the only one of these passes, where there is one and no more
abbrev pub only : {K : Type 0} → List (Passed K) → Option (Passed K)
only [] = None
only (p ∷ []) = Some p
only (p ∷ q ∷ ps) = None

-- of this seat there is one pass, and its receipts are the seat's entries in the journal
abbrev pub IsOwn : {K : Type 0} → List (Entry K) → List (Passed K) → ℕ → Type 0
IsOwn journal passes seat = only (passes_of seat passes) ≡ Some (record { seat = seat; receipts = entries_of seat journal })

-- of this seat there is no pass, and no entry
abbrev pub IsAbsent : {K : Type 0} → List (Entry K) → List (Passed K) → ℕ → Type 0
IsAbsent journal passes seat = (passes_of seat passes ≡ []) × (entries_of seat journal ≡ [])

-- the journal and the passes agree at a seat, where there are so many seats
abbrev pub AgreeAt : {K : Type 0} → List (Entry K) → List (Passed K) → ℕ → ℕ → Type 0
AgreeAt journal passes seats seat = (seat < seats → IsOwn journal passes seat) × (seats ≤ seat → IsAbsent journal passes seat)

-- they agree at every seat: the journal has the receipts of each pass, each once and in their order, and no other entries
abbrev pub Agrees : {K : Type 0} → List (Entry K) → List (Passed K) → ℕ → Type 0
Agrees journal passes seats = (seat : ℕ) → AgreeAt journal passes seats seat

-- the number of the first of these entries, or 0 where there is none
abbrev pub first_number : {K : Type 0} → List (Entry K) → ℕ
first_number entries = option_map_or (λ e. e.number) (slice_get entries 0) 0

-- After the entries that both lists begin with, the next ones differ, and these are their numbers, or 0 where a list has none.
pub record IsFirstDifference {K : Type 0} (xs ys : List (Entry K)) (x y : ℕ) : Type 0 where
  pub common : List (Entry K)
  pub xs_left : List (Entry K)
  pub ys_left : List (Entry K)
  pub xs_are : xs ≡ common ++ xs_left
  pub ys_are : ys ≡ common ++ ys_left
  pub differ : slice_get xs_left 0 ≡ slice_get ys_left 0 → ⊥
  pub number_x : x ≡ first_number xs_left
  pub number_y : y ≡ first_number ys_left

-- the numbers at the first difference of two lists, and 0 where they are the same
abbrev pub DifferAt : {K : Type 0} → (xs ys : List (Entry K)) → (x y : ℕ) → Type 0
DifferAt xs ys x y = ((xs ≡ ys) × (x ≡ 0) × (y ≡ 0)) ⊎ IsFirstDifference xs ys x y

-- what a mismatch reports of a seat: the numbers at the first difference of its entries and the receipts of its only pass; where it has none, or
-- more, the number of its first entry and 0
abbrev pub IsToldOf : {K : Type 0} → List (Entry K) → List (Passed K) → Mismatch → Type 0
IsToldOf journal passes m =
    MatchOption (only (passes_of m.seat passes)) ((m.in_journal ≡ first_number (entries_of m.seat journal)) × (m.in_pass ≡ 0)) (λ p. DifferAt (entries_of m.seat journal) p.receipts m.in_journal m.in_pass)

-- a mismatch: the least seat at which they don't agree, and what it reports of that
pub record IsMismatch {K : Type 0} (journal : List (Entry K)) (passes : List (Passed K)) (seats : ℕ) (m : Mismatch) : Type 0 where
  pub differs : AgreeAt journal passes seats m.seat → ⊥
  pub least : (seat : ℕ) → seat < m.seat → AgreeAt journal passes seats seat
  pub told : IsToldOf journal passes m

-- the least number from this one on for which a fact fails: none where it fails for none of them
abbrev pub IsLeastWithout : (ℕ → Type 0) → ℕ → Option ℕ → Type 0
IsLeastWithout Fact from least = MatchOption least ((n : ℕ) → from ≤ n → Fact n) (λ m. (from ≤ m) × ((n : ℕ) → from ≤ n → n < m → Fact n) × (Fact m → ⊥))

-- of a number so far, where there is one, and another one the lesser, where the other is at least this one
abbrev pub IsLesser : ℕ → ℕ → Option ℕ → Option ℕ → Type 0
IsLesser from other so_far least = (other < from → least ≡ so_far) × (from ≤ other → least ≡ Some (option_map_or (λ m. min m other) so_far other))
