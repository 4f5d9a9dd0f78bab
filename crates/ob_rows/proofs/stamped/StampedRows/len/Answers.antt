-- The rows are as many as what is under the stamps, and rise.
use Rattle.std.proofs.Common.{◌∙◌, ap, length, subst}
use Rattle.ob_rows.specs.Rows.{AreByStamp}
use Rattle.ob_rows.proofs.ByStamp.{rows_counted, rows_rise}
use Rattle.ob_rows.proofs.stamped.StampedRows.len.Goals as goal

pub returns-clause-count : goal.returns-clause-count
returns-clause-count c = c.len.ensures.len ∙ rows_counted c.self.inside.map.entries ∙ ap length c.self.view_is

pub returns-clause-rising : goal.returns-clause-rising
returns-clause-rising c = subst AreByStamp c.self.view_is (rows_rise c.self.inside.map.entries c.self.invariant)
