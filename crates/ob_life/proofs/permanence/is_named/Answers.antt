-- A name is found exactly where there is one.
use Rattle.std.proofs.Common.{◌∙◌}
use Rattle.ob_objects.specs.Named.{row_of_named}
use Rattle.ob_objects.specs.Store.{rows_of}
use Rattle.ob_life.proofs.Turned.{told_named}
use Rattle.ob_life.proofs.permanence.is_named.Goals as goal

pub returns : goal.returns
returns g c = rw (← c.space.view_is) (c.is_some.ensures ∙ told_named row_of_named c.args.object (rows_of c.space.inside.store) c.name_of.result c.name_of.ensures)
