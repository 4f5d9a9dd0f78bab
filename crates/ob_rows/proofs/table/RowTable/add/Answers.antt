-- The row comes last, and its stamp under its hash; where it can't, the index is as it was.
use Rattle.std.proofs.Common.{◌<◌, ◌∙◌, All, List, ap, subst, sym}
use Rattle.ob_rows.specs.Hashes.{row_hash}
use Rattle.ob_model.specs.declared.state.Row.{Row}
use Rattle.ob_rows.proofs.Kept.{held-added, held-taken_back, where_err, where_ok}
use Rattle.ob_rows.proofs.table.RowTable.add.Goals as goal

pub invariant_of-self-then-is_err : goal.invariant_of-self-then-is_err
invariant_of-self-then-is_err c =
    let newest = subst (λ (rows : List Row). All (λ x. x.stamp < c.args.row.stamp) rows) (sym c.self.view_is) c.requires.newest in
    held-taken_back c.self.inside.rows c.push.new.self c.self.inside.names c.self.inside.newest c.self.invariant c.add.new.self c.take.new.self c.row_hash-hash.result c.args.row.stamp newest
    (where_err c.push.result _ (sym c.is_err.ensures.value ∙ c.if-is_err.true) c.push.ensures.unchanged) c.in_ok-add.ensures.last c.take.ensures

pub invariant_of-self-2 : goal.invariant_of-self-2
invariant_of-self-2 c =
    let newest = subst (λ (rows : List Row). All (λ x. x.stamp < c.args.row.stamp) rows) (sym c.self.view_is) c.requires.newest in
    held-added c.self.inside.rows c.push.new.self c.self.inside.names c.self.inside.newest c.self.invariant c.add.new.self c.args.row c.row_hash-hash.result
    (c.row_hash-hash.ensures ∙ ap (row_hash c.args.row.directory) c.as_slice.ensures) newest
    (where_ok c.push.result _ (sym c.is_err.ensures.value ∙ c.if-is_err.false) c.push.ensures.last) c.in_ok-add.ensures.last
