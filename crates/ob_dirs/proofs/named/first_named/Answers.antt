-- The entry of the next stamp is named so, or is passed.
use Rattle.std.proofs.Common.{◌∙◌, ap, drop, sym, ◌+◌}
use Rattle.std.specs.Option.{option_copied, option_or}
use Rattle.ob_dirs.specs.Index.{entry_at, first_named}
use Rattle.ob_dirs.proofs.Lists.{named_at}
use Rattle.ob_dirs.proofs.named.first_named.Goals as goal

pub returns-in-Some : goal.returns-in-Some
returns-in-Some c =
    let at_stamp = entry_at c.args.entries.now in
    let rest = first_named at_stamp c.args.component.now c.args.fold (drop (c.loop-stamp.stamp-index + 1) c.args.stamps.now) in
    ap (λ o. option_or o rest) (sym (ap option_copied c.in-Some.is) ∙ c.entry_named.ensures)
    ∙ sym (named_at at_stamp c.args.component.now c.args.fold c.args.stamps.now c.loop-stamp.stamp-index 0 c.loop-stamp-test.true)
    ∙ c.loop-stamp.invariant

pub loop-stamp-preserved : goal.loop-stamp-preserved
loop-stamp-preserved c =
    let at_stamp = entry_at c.args.entries.now in
    let rest = first_named at_stamp c.args.component.now c.args.fold (drop (c.loop-stamp.stamp-index + 1) c.args.stamps.now) in
    ap (λ o. option_or o rest) (sym (ap option_copied c.in_default.is) ∙ c.entry_named.ensures)
    ∙ sym (named_at at_stamp c.args.component.now c.args.fold c.args.stamps.now c.loop-stamp.stamp-index 0 c.loop-stamp-test.true)
    ∙ c.loop-stamp.invariant
