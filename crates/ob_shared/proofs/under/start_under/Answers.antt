-- What the step under the lock says, is so of a run.
use Rattle.ob_model.specs.declared.reply.Event.TheVariants.{Start}
use Rattle.ob_shared.proofs.Chained.{start_refused, start_told}
use Rattle.ob_locked.specs.Answers.{answer_in}
use Rattle.ob_shared.proofs.Onward.{later_by}
use Rattle.ob_shared.proofs.under.start_under.Goals as goal

pub returns-clause-told : goal.returns-clause-told
returns-clause-told g c =
    start_told g.T.TypeSet.procedures c.args.locked.now c.is_kept.ensures.run c.args.pass.now c.start.new.pass (Start c.args.process c.args.command.now) c.start.result c.start.new.self
    c.start.ensures.made c.start.ensures.admitted c.start.ensures.waits

pub returns-clause-fault : goal.returns-clause-fault
returns-clause-fault g c =
    start_refused g.T.TypeSet.procedures c.args.locked.now c.is_kept.ensures.run c.args.pass.now c.start.new.pass (Start c.args.process c.args.command.now) c.start.result c.start.ensures.fault

pub returns-clause-later : goal.returns-clause-later
returns-clause-later g c =
    later_by g.T.TypeSet.procedures c.args.locked.now c.is_kept.ensures.run c.start.result c.args.pass.now c.start.new.pass (Start c.args.process c.args.command.now) answer_in c.start.new.self c.start.ensures.made c.start.ensures.unmade
