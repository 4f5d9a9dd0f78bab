-- A parse that was brought ends the command, or another one follows, with fewer reparses.
use Rattle.std.proofs.Common.{◌<◌, rules, refl, [], ◌∷◌, inr}
use Rattle.ob_model.specs.declared.reply.Answer.TheVariants.{Done, Ticket}
use Rattle.ob_model.specs.declared.reply.Event.TheVariants.{Resume}
use Rattle.ob_model.specs.Step.{Step}
use Rattle.ob_types.specs.Pending.{run_of_end}
use Rattle.ob_runner.proofs.Brought.{its_step, brought_has_run, ok_more, err_more, is_awaited, gives_up_at_once}
use Rattle.ob_runner.proofs.Fewer.{left_to, step_leaves_fewer}
use Rattle.ob_runner.proofs.complete.+run_parses.Goals as goal

pub run_parses-requires : goal.run_parses-requires
run_parses-requires g t c =
    let p = g.T.TypeSet.procedures in
    let s = c.args.core.now in
    let u = c.resume.new.self in
    let n = c.in-Ok-Parsing.next.ticket in
    let run = run_of_end c.run.result.outcome in
    let step : Step p s (Resume c.args.parsing.ticket run) (Ticket n) u = its_step p s u run _ c.in-Ok-Parsing.field-0-is c.run.ensures.ticket c.in-Ok-Parsing.ensures.step in
    let fewer : left_to u n < left_to s c.args.parsing.ticket = step_leaves_fewer p s u n c.state_is_sound.ensures c.args.parsing.ticket run step in
    let parse = c.in-Ok-Parsing.ensures.parse in
    search rules

pub returns-in-Ok-Done-clause-done : goal.returns-in-Ok-Done-clause-done
returns-in-Ok-Done-clause-done g t c =
    let p = g.T.TypeSet.procedures in
    let s = c.args.core.now in
    let u = c.resume.new.self in
    let run = run_of_end c.run.result.outcome in
    let step : Step p s (Resume c.args.parsing.ticket run) (Done c.in-Ok-Done.reply) u =
    its_step p s u run _ c.in-Ok-Done.field-0-is c.run.ensures.ticket c.in-Ok-Done.ensures.step in
    ((Resume c.args.parsing.ticket run, Done c.in-Ok-Done.reply) ∷ [], run, brought_has_run c.run.result.outcome, (u, refl, step, (refl, refl, refl)))

pub returns-in-Ok-Parsing-clause-done : goal.returns-in-Ok-Parsing-clause-done
returns-in-Ok-Parsing-clause-done g t c =
    let p = g.T.TypeSet.procedures in
    let s = c.args.core.now in
    let u = c.resume.new.self in
    let n = c.in-Ok-Parsing.next.ticket in
    let run = run_of_end c.run.result.outcome in
    let step : Step p s (Resume c.args.parsing.ticket run) (Ticket n) u = its_step p s u run _ c.in-Ok-Parsing.field-0-is c.run.ensures.ticket c.in-Ok-Parsing.ensures.step in
    ok_more _ _ c.run_parses.result
    (λ reply (steps, parse, ran, behind). (
      (Resume c.args.parsing.ticket run, Ticket n) ∷ steps,
      run,
      brought_has_run c.run.result.outcome,
      (u, refl, step, (parse, ran, behind)),
    )) c.run_parses.ensures.done

pub returns-in-Ok-Parsing-clause-faltered : goal.returns-in-Ok-Parsing-clause-faltered
returns-in-Ok-Parsing-clause-faltered g t c =
    let p = g.T.TypeSet.procedures in
    let s = c.args.core.now in
    let u = c.resume.new.self in
    let n = c.in-Ok-Parsing.next.ticket in
    let run = run_of_end c.run.result.outcome in
    let step : Step p s (Resume c.args.parsing.ticket run) (Ticket n) u = its_step p s u run _ c.in-Ok-Parsing.field-0-is c.run.ensures.ticket c.in-Ok-Parsing.ensures.step in
    err_more _ _ c.run_parses.result
    (λ (steps, behind). ((Resume c.args.parsing.ticket run, Ticket n) ∷ steps, inr (run, n, u, brought_has_run c.run.result.outcome, refl, refl, step, behind)))
    c.run_parses.ensures.faltered

pub returns-in-Err-clause-faltered : goal.returns-in-Err-clause-faltered
returns-in-Err-clause-faltered g t c =
    let p = g.T.TypeSet.procedures in
    let s = c.args.core.now in
    gives_up_at_once p s c.resume.new.self c.abandon.new.self c.args.parsing c.run.result c.in-Err.parsed c.abandon.result
    c.run.ensures.ticket c.run.ensures.face c.run.ensures.rest c.in-Err.ensures.back c.in-Err.ensures.err (is_awaited p c.own_face.ensures s c.args.parsing c.requires.awaited)
    c.abandon.ensures.exact c.abandon.ensures.step
