-- The stamp of the row goes from under its hash.
use Rattle.std.proofs.Common.{◌∙◌, ap, sym}
use Rattle.ob_rows.specs.Hashes.{row_hash}
use Rattle.ob_rows.proofs.Kept.{held-none, held-removed}
use Rattle.ob_rows.proofs.table.RowTable.remove.Goals as goal

pub invariant_of-self : goal.invariant_of-self
invariant_of-self c =
    held-none c.self.inside.rows c.remove.new.self c.self.inside.names c.self.inside.newest c.self.invariant c.args.stamp c.remove.ensures.others (sym c.in_err-row.was ∙ c.remove.ensures.there)

pub invariant_of-self-2 : goal.invariant_of-self-2
invariant_of-self-2 c =
    held-removed c.self.inside.rows c.remove.new.self c.self.inside.names c.self.inside.newest c.self.invariant c.args.stamp c.remove.ensures.others c.take.new.self
    c.in_ok-row.row c.row_hash-hash.result
    (c.row_hash-hash.ensures ∙ ap (row_hash c.in_ok-row.row.directory) c.as_slice.ensures) (sym c.in_ok-row.was ∙ c.remove.ensures.there) c.take.ensures
