-- The rows are those of the table.
use Rattle.std.proofs.Common.{ap, subst}
use Rattle.ob_rows.specs.Rows.{AreByStamp}
use Rattle.ob_mirror.specs.Mirrored.{Mirrored}
use Rattle.ob_mirror.proofs.mirror.Mirror.rows_rise.Goals as goal

pub returns : goal.returns
returns c = subst AreByStamp (ap (λ (m : Mirrored). m.rows) c.self.view_is) c.len.ensures.rising
