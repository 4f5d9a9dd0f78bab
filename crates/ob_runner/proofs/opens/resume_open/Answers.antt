-- The open is answered, or waits for another parse, which is kept under a new ticket; or it is given up.
use Rattle.std.proofs.Common.{refl, ap, sym, subst, ◌∷◌, inr}
use Rattle.ob_base.specs.declared.status.Status.TheVariants.{Success}
use Rattle.ob_model.specs.declared.reply.Answer.TheVariants.{Ticket}
use Rattle.ob_model.specs.declared.reply.Event.TheVariants.{Resume, Abandon}
use Rattle.ob_model.specs.declared.reply.ParseRun.TheVariants.{Unrun}
use Rattle.ob_model.specs.Refusals.{answers}
use Rattle.ob_model.specs.Step.{Step}
use Rattle.ob_types.specs.Pending.{run_of_end}
use Rattle.ob_types.specs.Parse.{asked_of}
use Rattle.ob_opens.specs.Waiting.{IsParseOf}
use Rattle.ob_runner.proofs.Brought.{its_step, brought_has_run, err_more}
use Rattle.ob_runner.specs.Begun.{tickets_of}
use Rattle.ob_runner.proofs.Awaited.{newest_ticket}
use Rattle.ob_runner.proofs.Beside.{of_waiting_with, one_more_ticket, one_given_up, others_resumed, others_abandoned}
use Rattle.ob_runner.proofs.opens.resume_open.Goals as goal

pub keep_parse-requires-clause-awaited : goal.keep_parse-requires-clause-awaited
keep_parse-requires-clause-awaited g c lifetimes bounds =
    others_resumed g.T.TypeSet.procedures c.args.core.now c.resume.new.self c.args.parsed.ticket (run_of_end c.args.parsed.outcome) _ c.args.waits.now c.state_is_sound.ensures c.requires.others
    c.in-Ok-Parsing.ensures.step c.requires.awaited

pub keep_parse-requires-clause-newest : goal.keep_parse-requires-clause-newest
keep_parse-requires-clause-newest g c lifetimes bounds =
    let p = g.T.TypeSet.procedures in
    let s = c.args.core.now in
    let u = c.resume.new.self in
    let n = c.in-Ok-Parsing.next.ticket in
    let run = run_of_end c.args.parsed.outcome in
    let step : Step p s (Resume c.args.parsed.ticket run) (Ticket n) u = its_step p s u run _ c.in-Ok-Parsing.field-0-is refl c.in-Ok-Parsing.ensures.step in
    newest_ticket p s u (Resume c.args.parsed.ticket run) n c.args.waits.now c.state_is_sound.ensures c.requires.awaited step

pub abandon_open-requires-after_bounds : goal.abandon_open-requires-after_bounds
abandon_open-requires-after_bounds g c lifetimes bounds =
    subst (λ x. IsParseOf x (asked_of c.in-Err.parsed)) (sym c.in-Err.ensures.err) (subst (λ x. IsParseOf c.args.core.now (asked_of x)) (sym c.in-Err.ensures.back) c.requires.parse)

pub returns-in-Ok-Done-clause-awaited : goal.returns-in-Ok-Done-clause-awaited
returns-in-Ok-Done-clause-awaited g c =
    others_resumed g.T.TypeSet.procedures c.args.core.now c.resume.new.self c.args.parsed.ticket (run_of_end c.args.parsed.outcome) _ c.args.waits.now c.state_is_sound.ensures c.requires.others
    c.in-Ok-Done.ensures.step c.requires.awaited

pub returns-in-Ok-Parsing-clause-tickets : goal.returns-in-Ok-Parsing-clause-tickets
returns-in-Ok-Parsing-clause-tickets g c =
    let n = c.in-Ok-Parsing.next.ticket in
    of_waiting_with c.keep_parse.result n c.keep_parse.ensures.waiting _ _ c.keep_parse.ensures.last
    (one_more_ticket n (tickets_of c.args.waits.now) c.args.waits.now c.keep_parse.new.waits c.in-Ok-Parsing.next refl refl)

pub returns-in-Ok-Parsing-clause-faltered : goal.returns-in-Ok-Parsing-clause-faltered
returns-in-Ok-Parsing-clause-faltered g c =
    let p = g.T.TypeSet.procedures in
    let s = c.args.core.now in
    let u = c.resume.new.self in
    let n = c.in-Ok-Parsing.next.ticket in
    let run = run_of_end c.args.parsed.outcome in
    let step : Step p s (Resume c.args.parsed.ticket run) (Ticket n) u = its_step p s u run _ c.in-Ok-Parsing.field-0-is refl c.in-Ok-Parsing.ensures.step in
    err_more _ _ c.keep_parse.result
    (λ given. let up = one_given_up p u c.keep_parse.new.core n Unrun given in
    ((Resume c.args.parsed.ticket run, Ticket n) ∷ up.0, inr (run, n, u, brought_has_run c.args.parsed.outcome, refl, refl, step, up.1)))
    c.keep_parse.ensures.given_up

pub returns-in-Err-clause-awaited : goal.returns-in-Err-clause-awaited
returns-in-Err-clause-awaited g c =
    let p = g.T.TypeSet.procedures in
    let run = run_of_end c.in-Err.parsed.outcome in
    others_abandoned p c.args.core.now c.abandon_open.new.core c.args.parsed.ticket run _ c.args.waits.now c.state_is_sound.ensures c.requires.others
    (subst (λ k. Step p c.args.core.now (Abandon k run) (answers Success) c.abandon_open.new.core) (ap (λ x. x.ticket) c.in-Err.ensures.back)
    (subst (λ x. Step p x (Abandon c.in-Err.parsed.ticket run) (answers Success) c.abandon_open.new.core) c.in-Err.ensures.err c.abandon_open.ensures))
    c.requires.awaited

pub returns-in-Err-clause-faltered : goal.returns-in-Err-clause-faltered
returns-in-Err-clause-faltered g c =
    let p = g.T.TypeSet.procedures in
    let run = run_of_end c.in-Err.parsed.outcome in
    one_given_up p c.args.core.now c.abandon_open.new.core c.args.parsed.ticket run
    (subst (λ k. Step p c.args.core.now (Abandon k run) (answers Success) c.abandon_open.new.core) (ap (λ x. x.ticket) c.in-Err.ensures.back)
    (subst (λ x. Step p x (Abandon c.in-Err.parsed.ticket run) (answers Success) c.abandon_open.new.core) c.in-Err.ensures.err c.abandon_open.ensures))
