-- The copy that readers see, after the steps that it was asked for and the changes that are left.
--
-- Source: this profile.
use Rattle.std.specs.Prelude.{List, [], ◌∷◌, ◌++◌, map}
use Rattle.ob_model.specs.declared.state.Row.{Row}
use Rattle.ob_rows.specs.declared.change.RowChange.{RowChange}
use Rattle.ob_rows.specs.Changes.{changed_by}
use Rattle.ob_published.specs.declared.shown.Shown.{Shown}
use Rattle.ob_published.specs.declared.shown.Reach.{Reach}
use Rattle.ob_published.specs.declared.shown.Op.{Op}
use Rattle.ob_published.specs.declared.shown.Op.TheVariants.{Change, Reached}
use Rattle.ob_published.specs.Shown.{after_steps}

-- its rows
abbrev pub rows_ahead : Shown → List Op → List RowChange → List Row
rows_ahead shown pending left = changed_by (after_steps shown pending).rows left

-- all steps of the copy: those asked for, the changes that are left, and the number that they lead to
abbrev pub asked : List Op → List RowChange → Reach → List Op
asked pending left reach = (pending ++ map Change left) ++ Reached reach ∷ []
