-- Lists in the order of a number that each element has.
--
-- Source: this profile.
use Rattle.std.specs.Prelude.{ℕ, nat_le, if◌then◌else◌, List, [], ◌∷◌}

module _ {X : Type 0} (key : X → ℕ) where
  -- among elements by rising numbers a further one, before the first that has its number or a greater one
  abbrev pub insert_by : X → List X → List X
  insert_by x [] = x ∷ []
  insert_by x (y ∷ ys) = if nat_le (key x) (key y) then x ∷ y ∷ ys else y ∷ insert_by x ys

  -- these elements by rising numbers; those of one number keep their order
  abbrev pub sorted_by : List X → List X
  sorted_by [] = []
  sorted_by (x ∷ xs) = insert_by x (sorted_by xs)
