-- The row or object that a query of a viewer finds.
--
-- Source: this profile.
use Rattle.std.specs.Prelude.{◌≡◌, ℕ, List, Option}
use Rattle.ob_model.specs.declared.state.Row.{Row}
use Rattle.ob_view.specs.Viewed.{object_among, IsResolved}
use Rattle.ob_view.specs.declared.query.Query.{Query}
use Rattle.ob_view.specs.declared.query.Query.TheVariants.{Component, Path}

-- the object is what the query finds among these rows
abbrev pub Answers : List Row → Query → Option ℕ → Type 0
Answers rows (Component directory component fold) object = object ≡ object_among rows directory component.now fold
Answers rows (Path path fold) object = IsResolved rows path.now fold object
