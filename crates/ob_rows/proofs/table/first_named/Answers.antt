-- The row of the next stamp is found so, or is passed.
use Rattle.std.proofs.Common.{◌∙◌, ap, drop, sym, ◌+◌}
use Rattle.std.specs.Option.{option_copied, option_or}
use Rattle.ob_rows.specs.Index.{first_named, row_at}
use Rattle.ob_rows.proofs.Found.{named_at}
use Rattle.ob_rows.proofs.table.first_named.Goals as goal

pub returns-in-Some : goal.returns-in-Some
returns-in-Some c =
    let at_stamp = row_at c.args.rows.now in
    let rest = first_named at_stamp c.args.directory c.args.component.now c.args.fold (drop (c.loop-stamp.stamp-index + 1) c.args.stamps.now) in
    ap (λ o. option_or o rest) (sym (ap option_copied c.in-Some.is) ∙ c.row_named.ensures)
    ∙ sym (named_at at_stamp c.args.directory c.args.component.now c.args.fold c.args.stamps.now c.loop-stamp.stamp-index 0 c.loop-stamp-test.true)
    ∙ c.loop-stamp.invariant

pub loop-stamp-preserved : goal.loop-stamp-preserved
loop-stamp-preserved c =
    let at_stamp = row_at c.args.rows.now in
    let rest = first_named at_stamp c.args.directory c.args.component.now c.args.fold (drop (c.loop-stamp.stamp-index + 1) c.args.stamps.now) in
    ap (λ o. option_or o rest) (sym (ap option_copied c.in_default.is) ∙ c.row_named.ensures)
    ∙ sym (named_at at_stamp c.args.directory c.args.component.now c.args.fold c.args.stamps.now c.loop-stamp.stamp-index 0 c.loop-stamp-test.true)
    ∙ c.loop-stamp.invariant
