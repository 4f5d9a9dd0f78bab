-- What is under the stamp is the row that has it.
use Rattle.std.proofs.Common.{◌∙◌, ap, find, sym}
use Rattle.ob_rows.proofs.Rising.{has_stamp}
use Rattle.ob_rows.proofs.ByStamp.{rows_found}
use Rattle.ob_rows.proofs.stamped.StampedRows.get.Goals as goal

pub returns : goal.returns
returns c =
    c.get.ensures.value ∙ sym (rows_found c.args.stamp c.self.inside.map.entries c.self.invariant)
    ∙ ap (find (has_stamp c.args.stamp)) c.self.view_is
