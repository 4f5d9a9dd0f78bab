-- A command is answered at once, or behind the parses that its open waits for.
use Rattle.std.proofs.Common.{refl, subst, [], ◌∷◌}
use Rattle.ob_model.specs.declared.reply.Answer.TheVariants.{Done, Ticket}
use Rattle.ob_model.specs.declared.reply.Event.TheVariants.{Start}
use Rattle.ob_model.specs.Step.{Step}
use Rattle.ob_opens.specs.Waiting.{answer_of}
use Rattle.ob_space.proofs.InPlace.{isnt, never}
use Rattle.ob_runner.proofs.Brought.{ok_more, err_more}
use Rattle.ob_runner.proofs.Memory.{no_ticket}
use Rattle.ob_runner.proofs.complete.run_command.Goals as goal

pub returns-in-Ok-Done-clause-done : goal.returns-in-Ok-Done-clause-done
returns-in-Ok-Done-clause-done g c =
    let p = g.T.TypeSet.procedures in
    let s = c.args.core.now in
    let u = c.start.new.self in
    let asked = Start c.args.process c.args.command.now in
    let step : Step p s asked (Done c.in-Ok-Done.reply) u = subst (λ e. Step p s asked (answer_of e) u) c.in-Ok-Done.field-0-is c.in-Ok-Done.ensures.step in
    ((asked, Done c.in-Ok-Done.reply) ∷ [], (u, refl, step, (refl, refl, refl)))

pub returns-in-Ok-Parsing-clause-done : goal.returns-in-Ok-Parsing-clause-done
returns-in-Ok-Parsing-clause-done g c =
    let p = g.T.TypeSet.procedures in
    let s = c.args.core.now in
    let u = c.start.new.self in
    let asked = Start c.args.process c.args.command.now in
    let n = c.in-Ok-Parsing.parsing.ticket in
    let step : Step p s asked (Ticket n) u = subst (λ e. Step p s asked (answer_of e) u) c.in-Ok-Parsing.field-0-is c.in-Ok-Parsing.ensures.step in
    ok_more _ _ c.run_parses.result (λ reply (steps, parse, ran, behind). ((asked, Ticket n) ∷ steps, (u, refl, step, (parse, ran, behind)))) c.run_parses.ensures.done

pub returns-in-Ok-Parsing-clause-faltered : goal.returns-in-Ok-Parsing-clause-faltered
returns-in-Ok-Parsing-clause-faltered g c =
    let p = g.T.TypeSet.procedures in
    let s = c.args.core.now in
    let u = c.start.new.self in
    let asked = Start c.args.process c.args.command.now in
    let n = c.in-Ok-Parsing.parsing.ticket in
    let step : Step p s asked (Ticket n) u = subst (λ e. Step p s asked (answer_of e) u) c.in-Ok-Parsing.field-0-is c.in-Ok-Parsing.ensures.step in
    err_more _ _ c.run_parses.result (λ (steps, behind). ((asked, Ticket n) ∷ steps, (n, u, refl, refl, step, behind))) c.run_parses.ensures.faltered

pub returns-in-Err-clause-faltered : goal.returns-in-Err-clause-faltered
returns-in-Err-clause-faltered g c =
    ([], (c.in-Err.ensures.err, (isnt c.in-Err.ensures.without_memory, isnt c.in-Err.ensures.early, isnt c.in-Err.ensures.found)))

pub returns-in-Ok-Parsing-clause-without_memory : goal.returns-in-Ok-Parsing-clause-without_memory
returns-in-Ok-Parsing-clause-without_memory g c =
    let p = g.T.TypeSet.procedures in
    let s = c.args.core.now in
    let u = c.start.new.self in
    let asked = Start c.args.process c.args.command.now in
    let n = c.in-Ok-Parsing.parsing.ticket in
    let step : Step p s asked (Ticket n) u = subst (λ e. Step p s asked (answer_of e) u) c.in-Ok-Parsing.field-0-is c.in-Ok-Parsing.ensures.step in
    never (no_ticket p s u c.args.process n c.args.command.now step)
