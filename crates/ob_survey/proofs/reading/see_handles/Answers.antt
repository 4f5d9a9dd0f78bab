-- One handle more, and no more handles.
use Rattle.std.proofs.Common.{◌+◌, ◌-◌, arith}
use Rattle.ob_model.specs.State.{table_size}
use Rattle.ob_survey.proofs.Gathering.{handles_more, handles_end, handles_spent}
use Rattle.ob_survey.proofs.reading.see_handles.Goals as goal

pub returns-in_default : goal.returns-in_default
returns-in_default g c =
    let s = c.args.core.now in
    handles_end s (table_size s c.args.process - c.loop-step.step) c.args.process c.loop-step.order c.loop-step.seen.items _ c.in_default.ensures c.loop-step.invariant

pub loop-step-preserved : goal.loop-step-preserved
loop-step-preserved g c =
    let s = c.args.core.now in
    handles_more s (table_size s c.args.process - (c.loop-step.step + 1)) (table_size s c.args.process - c.loop-step.step) c.args.process c.loop-step.order c.in-Some.held c.loop-step.seen.items c.push.new.self.items _ c.in-Some.ensures
    (omega (arith, c.loop-step-test.true, c.handles_of-count.ensures)) c.in_ok-push.ensures.items c.loop-step.invariant

pub returns : goal.returns
returns g c =
    let s = c.args.core.now in
    handles_spent s (table_size s c.args.process - c.loop-step.step) c.args.process c.loop-step.order c.loop-step.seen.items _ (omega (arith, c.loop-step-test.false, c.handles_of-count.ensures)) c.loop-step.invariant
