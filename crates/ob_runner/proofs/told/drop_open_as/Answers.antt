-- The open is given up with its parse as is told, or as one that found no memory; and the others stay.
use Rattle.std.proofs.Common.{◌∙◌, ap, subst}
use Rattle.ob_base.specs.declared.status.Status.TheVariants.{Success}
use Rattle.ob_model.specs.declared.reply.Event.TheVariants.{Abandon}
use Rattle.ob_model.specs.Refusals.{answers}
use Rattle.ob_model.specs.Step.{Step}
use Rattle.ob_types.specs.Pending.{run_of, run_of_end, brought as end_of}
use Rattle.ob_runner.proofs.Beside.{abandoned_await, brought_awaits, found_awaits}
use Rattle.ob_runner.proofs.told.drop_open_as.Goals as goal

pub abandon_open-requires-after_bounds : goal.abandon_open-requires-after_bounds
abandon_open-requires-after_bounds g c lifetimes bounds =
    let p = g.T.TypeSet.procedures in
    brought_awaits p c.args.core.now c.take-parsing.result (end_of c.in-Ok.brought) c.in-Ok.ensures.same
    (found_awaits p c.args.core.now c.args.ticket c.args.waits.now c.requires.awaited c.take-parsing.result c.take-parsing.ensures.found)

pub abandon_open-requires-in-Err-after_bounds : goal.abandon_open-requires-in-Err-after_bounds
abandon_open-requires-in-Err-after_bounds g c lifetimes bounds =
    let p = g.T.TypeSet.procedures in
    brought_awaits p c.args.core.now c.take-parsing.result c.in-Err.parsed c.in-Err.ensures.back
    (found_awaits p c.args.core.now c.args.ticket c.args.waits.now c.requires.awaited c.take-parsing.result c.take-parsing.ensures.found)

pub returns-in-Ok-clause-awaited : goal.returns-in-Ok-clause-awaited
returns-in-Ok-clause-awaited g c =
    abandoned_await g.T.TypeSet.procedures c.args.core.now c.args.ticket c.args.waits.now c.requires.awaited c.abandon_open.new.core (end_of c.in-Ok.brought).ticket (run_of c.in-Ok.brought) _
    c.take-parsing.new.self c.state_is_sound.ensures (ap (λ x. x.ticket) c.in-Ok.ensures.same ∙ c.take-parsing.ensures.own) c.take-parsing.ensures.others c.abandon_open.ensures

pub returns-in-Ok-clause-step : goal.returns-in-Ok-clause-step
returns-in-Ok-clause-step g c =
    let p = g.T.TypeSet.procedures in
    let s = c.args.core.now in
    let t = c.abandon_open.new.core in
    subst (λ r. Step p s (Abandon c.args.ticket r) (answers Success) t) c.in-Ok.ensures.told
    (subst (λ k. Step p s (Abandon k (run_of c.in-Ok.brought)) (answers Success) t) (ap (λ x. x.ticket) c.in-Ok.ensures.same ∙ c.take-parsing.ensures.own) c.abandon_open.ensures)

pub returns-in-Err-clause-awaited : goal.returns-in-Err-clause-awaited
returns-in-Err-clause-awaited g c =
    abandoned_await g.T.TypeSet.procedures c.args.core.now c.args.ticket c.args.waits.now c.requires.awaited c.abandon_open-in-Err.new.core c.in-Err.parsed.ticket (run_of_end c.in-Err.parsed.outcome) _
    c.take-parsing.new.self c.state_is_sound.ensures (ap (λ x. x.ticket) c.in-Err.ensures.back ∙ c.take-parsing.ensures.own) c.take-parsing.ensures.others c.abandon_open-in-Err.ensures

pub returns-in-Err-clause-given_up : goal.returns-in-Err-clause-given_up
returns-in-Err-clause-given_up g c =
    let p = g.T.TypeSet.procedures in
    let s = c.args.core.now in
    let t = c.abandon_open-in-Err.new.core in
    subst (λ r. Step p s (Abandon c.args.ticket r) (answers Success) t) c.in-Err.ensures.none
    (subst (λ k. Step p s (Abandon k (run_of_end c.in-Err.parsed.outcome)) (answers Success) t) (ap (λ x. x.ticket) c.in-Err.ensures.back ∙ c.take-parsing.ensures.own) c.abandon_open-in-Err.ensures)
