-- Counts that are kept under the numbers of objects.
--
-- Source: this profile.
use Rattle.std.specs.Prelude.{◌≡◌, ℕ, ◌+◌, ◌-◌, ◌<◌, ◌≤◌, ◌==◌, Bool, true, false, if◌then◌else◌, List, [], Option, None, Some, length, slice_get}
use Rattle.std.specs.BTreeMap.{is_at}
use Rattle.std.specs.Map.{lookup}
use Rattle.std.specs.Option.{unwrap_or, is_some}
use Rattle.std.specs.List.{list_any}
use Rattle.std.specs.List.Sorted.{IsNonDecreasing}
use Rattle.std.specs.Ordering.{nat_cmp}

-- counts under the numbers of objects
abbrev pub Numbers : Type 0
Numbers = List (ℕ × ℕ)

-- the count of an object: 0 where none is kept
abbrev pub count_of : Numbers → ℕ → ℕ
count_of numbers object = unwrap_or (lookup (is_at (nat_cmp object)) numbers) 0

-- one where the objects are the same
abbrev pub one_if : ℕ → ℕ → ℕ
one_if object other = if other == object then 1 else 0

-- the count of one object is one more, or one less, and all others are as before
abbrev pub CountsOneMore : ℕ → Numbers → Numbers → Type 0
CountsOneMore object old new = (other : ℕ) → count_of new other ≡ count_of old other + one_if object other

abbrev pub CountsOneLess : ℕ → Numbers → Numbers → Type 0
CountsOneLess object old new = (other : ℕ) → count_of new other ≡ count_of old other - one_if object other

-- the count of one object is less by so many, and each count by another one of the object
abbrev pub CountsLessBy : ℕ → ℕ → Numbers → Numbers → Type 0
CountsLessBy object less old new = (other : ℕ) → count_of new other ≡ count_of old other - (if other == object then less else 0)

abbrev pub CountsLessByAll : Numbers → Numbers → Numbers → Type 0
CountsLessByAll others old new = (object : ℕ) → count_of new object ≡ count_of old object - count_of others object

-- an object is listed, be its count 0 or more
abbrev pub is_listed : Numbers → ℕ → Bool
is_listed numbers object = is_some (lookup (is_at (nat_cmp object)) numbers)

-- the same objects are listed
abbrev pub ListsTheSame : Numbers → Numbers → Type 0
ListsTheSame old new = (object : ℕ) → is_listed new object ≡ is_listed old object

-- where the count of an object is kept: at this place of the list; none where none is kept
abbrev pub IsPlaceOf : ℕ → Numbers → Option ℕ → Type 0
IsPlaceOf object numbers None = is_listed numbers object ≡ false
IsPlaceOf object numbers (Some place) = slice_get numbers place ≡ Some (object, count_of numbers object)

-- a vector is empty, and its capacity as great as the objects of a list are many
abbrev pub HasRoomFor : Numbers → List ℕ → ℕ → Type 0
HasRoomFor numbers ids capacity = (ids ≡ []) × (length numbers ≤ capacity)

-- these are the objects that are listed, in order
abbrev pub AreListed : Numbers → List ℕ → Type 0
AreListed numbers ids = IsNonDecreasing ids × ((object : ℕ) → is_listed numbers object ≡ list_any (λ id. id == object) ids)

-- the greatest object that is listed below a bound; none where no lesser one is
abbrev pub IsLastListed : ℕ → Numbers → Option ℕ → Type 0
IsLastListed bound numbers None = (object : ℕ) → is_listed numbers object ≡ true → bound ≤ object
IsLastListed bound numbers (Some last) =
    (is_listed numbers last ≡ true) × (last < bound) × ((object : ℕ) → is_listed numbers object ≡ true → object < bound → object ≤ last)
