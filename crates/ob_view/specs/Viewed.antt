-- The object that a viewer finds under a component in a directory, or at the end of an absolute path.
--
-- Source: this profile.
use Rattle.std.specs.Prelude.{◌≡◌, ℕ, Bool, List, [], ◌∷◌, Option, None, Some}
use Rattle.std.specs.Option.{option_and_then, option_map}
use Rattle.ob_model.specs.declared.state.Row.{Row}
use Rattle.ob_model.specs.Names.{separator, IsSplit}
use Rattle.ob_model.specs.State.{root_id}
use Rattle.ob_rows.specs.Rows.{found_among}

-- the object that the component finds among these rows
abbrev pub object_among : List Row → ℕ → List ℕ → Bool → Option ℕ
object_among rows directory component fold = option_map (λ row. row.object) (found_among rows directory component fold)

-- the object along the components from a directory among these rows, each found by own entries alone; the directory itself
-- where there is no component
abbrev pub object_along : List Row → ℕ → List (List ℕ) → Bool → Option ℕ
object_along rows directory [] fold = Some directory
object_along rows directory (component ∷ components) fold =
    option_and_then (λ object. object_along rows object components fold) (object_among rows directory component fold)

-- the object of a path from a directory, each component after a separator: that along its components, and none where it has
-- no such components
pub record IsWalked (rows : List Row) (directory : ℕ) (path : List ℕ) (fold : Bool) (object : Option ℕ) : Type 0 where
  pub along : (components : List (List ℕ)) → IsSplit path components [] → object ≡ object_along rows directory components fold
  pub malformed : ((components : List (List ℕ)) → IsSplit path components [] → ⊥) → object ≡ None

-- the path is absolute and has these components, each after a separator: none where it is the root, `\`
abbrev pub IsAbsolute : List ℕ → List (List ℕ) → Type 0
IsAbsolute path [] = path ≡ separator ∷ []
IsAbsolute path (component ∷ components) = IsSplit path (component ∷ components) []

-- the object of a path among these rows: that along its components from the root, and none where the path isn't absolute
pub record IsResolved (rows : List Row) (path : List ℕ) (fold : Bool) (object : Option ℕ) : Type 0 where
  pub along : (components : List (List ℕ)) → IsAbsolute path components → object ≡ object_along rows root_id components fold
  pub malformed : ((components : List (List ℕ)) → IsAbsolute path components → ⊥) → object ≡ None

-- the most viewers of a namespace
abbrev pub most_viewers : ℕ
most_viewers = 16
