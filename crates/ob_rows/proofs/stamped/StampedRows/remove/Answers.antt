-- What is under the stamp goes, and every other row stays.
use Rattle.std.proofs.Common.{◌∙◌, ap, filter, find, sym}
use Rattle.ob_rows.proofs.Rising.{has_other, has_stamp}
use Rattle.ob_rows.proofs.ByStamp.{own-removed, rows-removed, rows_found}
use Rattle.ob_rows.proofs.stamped.StampedRows.remove.Goals as goal

pub returns-clause-there : goal.returns-clause-there
returns-clause-there c =
    c.swap_remove.ensures.value ∙ sym (rows_found c.args.stamp c.self.inside.map.entries c.self.invariant)
    ∙ ap (find (has_stamp c.args.stamp)) c.self.view_is

pub returns-clause-others : goal.returns-clause-others
returns-clause-others c =
    let old = c.self.inside.map.entries in
    let new = c.swap_remove.new.self.entries in
    rows-removed old new c.args.stamp c.self.invariant
    (own-removed old new c.args.stamp c.self.invariant c.swap_remove.ensures.unique c.swap_remove.ensures.updates.0) c.swap_remove.ensures.updates.0
    ∙ ap (filter (has_other c.args.stamp)) c.self.view_is
