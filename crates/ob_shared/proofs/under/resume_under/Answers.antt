-- The step was made, or none was.
use Rattle.ob_shared.proofs.Onward.{later_itself, later_made}
use Rattle.ob_shared.proofs.under.resume_under.Goals as goal

pub returns-in-Ok-clause-later : goal.returns-in-Ok-clause-later
returns-in-Ok-clause-later g c = later_made g.T.TypeSet.procedures c.args.locked.now c.is_kept.ensures.run c.args.pass.now c.step.new.pass _ _ c.step.new.locked c.in-Ok.ensures.made

pub returns-in-Err-default-Some-clause-later : goal.returns-in-Err-default-Some-clause-later
returns-in-Err-default-Some-clause-later g c =
    let refused = c.in-Err-default-Some.ensures in later_itself g.T.TypeSet.procedures c.args.locked.now c.is_kept.ensures.run c.step.new.locked refused.unmade.0
