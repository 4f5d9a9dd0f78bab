-- The resume made no step, and the open was given up under the same lock.
use Rattle.std.proofs.Common.{◌∙◌, sym}
use Rattle.ob_shared.proofs.Chained.{cut_off}
use Rattle.ob_shared.proofs.Onward.{later_after, later_made}
use Rattle.ob_shared.proofs.under.bring_under.Goals as goal

pub returns-in-Err-default-Some-clause-cut_off : goal.returns-in-Err-default-Some-clause-cut_off
returns-in-Err-default-Some-clause-cut_off g c =
    let refused = c.in-Err-default-Some.ensures in
    cut_off g.T.TypeSet.procedures c.args.locked.now c.is_kept.ensures.run c.step.new.locked c.args.pass.now c.step.new.pass c.abandon_under.new.pass c.args.parsed c.in-Err-default-Some.parsed c.in-Err-default-Some.fault
    refused.fault refused.unmade.0 refused.unmade.1 (sym c.in-Err-default-Some.field-0-1-is ∙ refused.back) c.abandon_under.ensures.after

pub returns-in-Ok-clause-later : goal.returns-in-Ok-clause-later
returns-in-Ok-clause-later g c = later_made g.T.TypeSet.procedures c.args.locked.now c.is_kept.ensures.run c.args.pass.now c.step.new.pass _ _ c.step.new.locked c.in-Ok.ensures.made

pub returns-in-Err-default-Some-clause-later : goal.returns-in-Err-default-Some-clause-later
returns-in-Err-default-Some-clause-later g c =
    let refused = c.in-Err-default-Some.ensures in later_after g.T.TypeSet.procedures c.args.locked.now c.is_kept.ensures.run c.step.new.locked c.abandon_under.new.locked refused.unmade.0 c.abandon_under.ensures.later
