-- One process more, and no more processes.
use Rattle.std.proofs.Common.{◌+◌, ◌-◌, [], ◌∷◌, ◌++◌, ap, ◌∙◌, arith}
use Rattle.ob_tree.specs.declared.survey.SeenProcess.{SeenProcess}
use Rattle.ob_survey.proofs.Gathering.{processes_more, processes_end, processes_spent}
use Rattle.ob_survey.proofs.reading.see_processes.Goals as goal

pub returns-in_default : goal.returns-in_default
returns-in_default g c =
    let s = c.args.core.now in
    processes_end s (s.next_process - c.loop-step.step) c.loop-step.last c.loop-step.seen.items _ c.in_default.ensures c.loop-step.invariant

pub loop-step-preserved : goal.loop-step-preserved
loop-step-preserved g c =
    let s = c.args.core.now in
    processes_more s (s.next_process - (c.loop-step.step + 1)) (s.next_process - c.loop-step.step) c.loop-step.last c.in-Some.process c.loop-step.seen.items c.push.new.self.items _ c.in-Some.ensures (omega (arith, c.loop-step-test.true, c.next_process-next.ensures)) (c.in_ok-push.ensures.items ∙ ap (λ (p : SeenProcess). c.loop-step.seen.items ++ p ∷ []) c.in_ok-see_process.ensures) c.loop-step.invariant

pub returns : goal.returns
returns g c =
    let s = c.args.core.now in
    processes_spent s (s.next_process - c.loop-step.step) c.loop-step.last c.loop-step.seen.items _ (omega (arith, c.loop-step-test.false, c.next_process-next.ensures)) c.loop-step.invariant
