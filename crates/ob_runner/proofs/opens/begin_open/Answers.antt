-- A command is answered at once, or its parse is kept under a new ticket.
use Rattle.std.proofs.Common.{refl, subst, ◌∷◌}
use Rattle.ob_model.specs.declared.reply.Answer.TheVariants.{Ticket}
use Rattle.ob_model.specs.declared.reply.Event.TheVariants.{Start}
use Rattle.ob_model.specs.declared.reply.ParseRun.TheVariants.{Unrun}
use Rattle.ob_model.specs.Step.{Step}
use Rattle.ob_opens.specs.Waiting.{answer_of}
use Rattle.ob_runner.proofs.Brought.{err_more}
use Rattle.ob_runner.proofs.Awaited.{start_all_await, newest_ticket, ticket_is_new}
use Rattle.ob_runner.proofs.Beside.{of_waiting, one_given_up}
use Rattle.ob_runner.proofs.opens.begin_open.Goals as goal

pub keep_parse-requires-clause-awaited : goal.keep_parse-requires-clause-awaited
keep_parse-requires-clause-awaited g c lifetimes bounds =
    start_all_await g.T.TypeSet.procedures c.args.core.now c.start.new.self c.args.process c.args.command.now _ c.args.waits.now c.state_is_sound.ensures c.in-Ok-Parsing.ensures.step
    c.requires.awaited

pub keep_parse-requires-clause-newest : goal.keep_parse-requires-clause-newest
keep_parse-requires-clause-newest g c lifetimes bounds =
    let p = g.T.TypeSet.procedures in
    let s = c.args.core.now in
    let u = c.start.new.self in
    let asked = Start c.args.process c.args.command.now in
    let n = c.in-Ok-Parsing.parsing.ticket in
    let step : Step p s asked (Ticket n) u = subst (λ e. Step p s asked (answer_of e) u) c.in-Ok-Parsing.field-0-is c.in-Ok-Parsing.ensures.step in
    newest_ticket p s u asked n c.args.waits.now c.state_is_sound.ensures c.requires.awaited step

pub returns-in-Ok-Done-clause-awaited : goal.returns-in-Ok-Done-clause-awaited
returns-in-Ok-Done-clause-awaited g c =
    start_all_await g.T.TypeSet.procedures c.args.core.now c.start.new.self c.args.process c.args.command.now _ c.args.waits.now c.state_is_sound.ensures c.in-Ok-Done.ensures.step
    c.requires.awaited

pub returns-in-Ok-Parsing-clause-fresh : goal.returns-in-Ok-Parsing-clause-fresh
returns-in-Ok-Parsing-clause-fresh g c =
    let p = g.T.TypeSet.procedures in
    let s = c.args.core.now in
    let u = c.start.new.self in
    let asked = Start c.args.process c.args.command.now in
    let n = c.in-Ok-Parsing.parsing.ticket in
    let step : Step p s asked (Ticket n) u = subst (λ e. Step p s asked (answer_of e) u) c.in-Ok-Parsing.field-0-is c.in-Ok-Parsing.ensures.step in
    of_waiting c.keep_parse.result n c.keep_parse.ensures.waiting _ (ticket_is_new p s u asked n c.args.waits.now c.state_is_sound.ensures c.requires.awaited step)

pub returns-in-Ok-Parsing-clause-faltered : goal.returns-in-Ok-Parsing-clause-faltered
returns-in-Ok-Parsing-clause-faltered g c =
    let p = g.T.TypeSet.procedures in
    let s = c.args.core.now in
    let u = c.start.new.self in
    let asked = Start c.args.process c.args.command.now in
    let n = c.in-Ok-Parsing.parsing.ticket in
    let step : Step p s asked (Ticket n) u = subst (λ e. Step p s asked (answer_of e) u) c.in-Ok-Parsing.field-0-is c.in-Ok-Parsing.ensures.step in
    err_more _ _ c.keep_parse.result
    (λ given. let up = one_given_up p u c.keep_parse.new.core n Unrun given in ((asked, Ticket n) ∷ up.0, (n, u, refl, refl, step, up.1)))
    c.keep_parse.ensures.given_up
