-- The parse is brought to its open as is told, or the open is given up; and the others stay.
use Rattle.std.proofs.Common.{◌∙◌, ap, subst}
use Rattle.ob_base.specs.declared.status.Status.TheVariants.{Success}
use Rattle.ob_model.specs.declared.reply.Event.TheVariants.{Resume, Abandon}
use Rattle.ob_model.specs.Refusals.{answers}
use Rattle.ob_model.specs.Step.{Step}
use Rattle.ob_types.specs.Pending.{run_of_end}
use Rattle.ob_types.specs.Parse.{asked_of}
use Rattle.ob_runner.specs.Completes.{GivesUp}
use Rattle.ob_runner.proofs.Brought.{ok_more, err_more}
use Rattle.ob_runner.specs.Begun.{answer_in, with_begun}
use Rattle.ob_runner.proofs.Beside.{abandoned_await, brought_awaits, found_awaits, left_is_awaited, left_have_others, one_given_up, run_brought, told_fresh}
use Rattle.ob_runner.proofs.told.end_open_as.Goals as goal

pub resume_open-requires-clause-parse : goal.resume_open-requires-clause-parse
resume_open-requires-clause-parse g c lifetimes bounds =
    let p = g.T.TypeSet.procedures in
    brought_awaits p c.args.core.now c.take-parsing.result c.into_parsed.result (ap asked_of c.into_parsed.ensures ∙ c.in-Ok.ensures.same)
    (found_awaits p c.args.core.now c.args.ticket c.args.waits.now c.requires.awaited c.take-parsing.result c.take-parsing.ensures.found)

pub resume_open-requires-clause-awaited : goal.resume_open-requires-clause-awaited
resume_open-requires-clause-awaited g c lifetimes bounds =
    left_is_awaited g.T.TypeSet.procedures c.args.core.now c.args.ticket c.args.waits.now c.requires.awaited c.take-parsing.new.self c.take-parsing.ensures.others

pub resume_open-requires-clause-others : goal.resume_open-requires-clause-others
resume_open-requires-clause-others g c lifetimes bounds =
    left_have_others c.into_parsed.result.ticket c.args.ticket c.args.waits.now c.take-parsing.new.self
    (ap (λ x. x.ticket) (ap asked_of c.into_parsed.ensures ∙ c.in-Ok.ensures.same) ∙ c.take-parsing.ensures.own) c.take-parsing.ensures.others

pub abandon_open-requires-after_bounds : goal.abandon_open-requires-after_bounds
abandon_open-requires-after_bounds g c lifetimes bounds =
    let p = g.T.TypeSet.procedures in
    brought_awaits p c.args.core.now c.take-parsing.result c.in-Err.parsed c.in-Err.ensures.back
    (found_awaits p c.args.core.now c.args.ticket c.args.waits.now c.requires.awaited c.take-parsing.result c.take-parsing.ensures.found)

pub returns-in-Ok-clause-ended : goal.returns-in-Ok-clause-ended
returns-in-Ok-clause-ended g c =
    let p = g.T.TypeSet.procedures in
    let own = ap (λ x. x.ticket) (ap asked_of c.into_parsed.ensures ∙ c.in-Ok.ensures.same) ∙ c.take-parsing.ensures.own in
    let run = ap (λ x. run_of_end x.outcome) c.into_parsed.ensures ∙ run_brought c.in-Ok.brought c.args.parse c.in-Ok.ensures.told c.requires.run in
    ok_more _ _ c.resume_open.result
    (λ begun step.
    subst (λ r. Step p c.args.core.now (Resume c.args.ticket r) (answer_in begun) c.resume_open.new.core) run
    (subst (λ k. Step p c.args.core.now (Resume k (run_of_end c.into_parsed.result.outcome)) (answer_in begun) c.resume_open.new.core) own step))
    c.resume_open.ensures.ended

pub returns-in-Ok-clause-tickets : goal.returns-in-Ok-clause-tickets
returns-in-Ok-clause-tickets g c =
    ok_more _ _ c.resume_open.result (λ begun same. same ∙ ap (with_begun begun) c.take-parsing.ensures.tickets) c.resume_open.ensures.tickets

pub returns-in-Ok-clause-fresh : goal.returns-in-Ok-clause-fresh
returns-in-Ok-clause-fresh g c =
    told_fresh g.T.TypeSet.procedures c.resume_open.result c.args.core.now c.resume_open.new.core (Resume c.into_parsed.result.ticket (run_of_end c.into_parsed.result.outcome)) c.args.waits.now
    c.state_is_sound.ensures c.requires.awaited c.resume_open.ensures.ended

pub returns-in-Ok-clause-faltered : goal.returns-in-Ok-clause-faltered
returns-in-Ok-clause-faltered g c =
    let own = ap (λ x. x.ticket) (ap asked_of c.into_parsed.ensures ∙ c.in-Ok.ensures.same) ∙ c.take-parsing.ensures.own in
    err_more _ _ c.resume_open.result (λ up. (up.0, subst (λ k. GivesUp g.T.TypeSet.procedures k up.0 c.args.core.now c.resume_open.new.core) own up.1)) c.resume_open.ensures.faltered

pub returns-in-Err-clause-awaited : goal.returns-in-Err-clause-awaited
returns-in-Err-clause-awaited g c =
    abandoned_await g.T.TypeSet.procedures c.args.core.now c.args.ticket c.args.waits.now c.requires.awaited c.abandon_open.new.core c.in-Err.parsed.ticket (run_of_end c.in-Err.parsed.outcome) _
    c.take-parsing.new.self c.state_is_sound.ensures (ap (λ x. x.ticket) c.in-Err.ensures.back ∙ c.take-parsing.ensures.own) c.take-parsing.ensures.others c.abandon_open.ensures

pub returns-in-Err-clause-faltered : goal.returns-in-Err-clause-faltered
returns-in-Err-clause-faltered g c =
    let p = g.T.TypeSet.procedures in
    let run = run_of_end c.in-Err.parsed.outcome in
    one_given_up p c.args.core.now c.abandon_open.new.core c.args.ticket run
    (subst (λ k. Step p c.args.core.now (Abandon k run) (answers Success) c.abandon_open.new.core) (ap (λ x. x.ticket) c.in-Err.ensures.back ∙ c.take-parsing.ensures.own) c.abandon_open.ensures)
