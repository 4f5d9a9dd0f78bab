-- The parse is run and brought to its open, and the others stay.
use Rattle.std.proofs.Common.{◌∙◌, refl, ap, subst}
use Rattle.ob_model.specs.declared.reply.Event.TheVariants.{Resume}
use Rattle.ob_model.specs.Step.{Step}
use Rattle.ob_types.specs.Pending.{run_of_end}
use Rattle.ob_runner.specs.Completes.{GivesUp}
use Rattle.ob_runner.proofs.Brought.{brought_has_run, ok_more, err_more}
use Rattle.ob_runner.specs.Begun.{answer_in, with_begun}
use Rattle.ob_runner.proofs.Beside.{found_awaits, left_is_awaited, left_have_others, run_awaits, told_fresh}
use Rattle.ob_runner.proofs.opens.end_open.Goals as goal

pub resume_open-requires-clause-parse : goal.resume_open-requires-clause-parse
resume_open-requires-clause-parse g c lifetimes bounds =
    let p = g.T.TypeSet.procedures in
    let s = c.args.core.now in
    run_awaits p s s c.take-parsing.result c.run.result c.run.result c.run.ensures.ticket c.run.ensures.face c.run.ensures.rest refl refl
    (found_awaits p s c.args.ticket c.args.waits.now c.requires.awaited c.take-parsing.result c.take-parsing.ensures.found)

pub resume_open-requires-clause-awaited : goal.resume_open-requires-clause-awaited
resume_open-requires-clause-awaited g c lifetimes bounds =
    left_is_awaited g.T.TypeSet.procedures c.args.core.now c.args.ticket c.args.waits.now c.requires.awaited c.take-parsing.new.self c.take-parsing.ensures.others

pub resume_open-requires-clause-others : goal.resume_open-requires-clause-others
resume_open-requires-clause-others g c lifetimes bounds =
    left_have_others c.run.result.ticket c.args.ticket c.args.waits.now c.take-parsing.new.self (c.run.ensures.ticket ∙ c.take-parsing.ensures.own) c.take-parsing.ensures.others

pub returns-clause-ended : goal.returns-clause-ended
returns-clause-ended g c =
    let p = g.T.TypeSet.procedures in
    let run = run_of_end c.run.result.outcome in
    ok_more _ _ c.resume_open.result
    (λ begun step.
    (run, brought_has_run c.run.result.outcome, subst (λ k. Step p c.args.core.now (Resume k run) (answer_in begun) c.resume_open.new.core) (c.run.ensures.ticket ∙ c.take-parsing.ensures.own) step))
    c.resume_open.ensures.ended

pub returns-clause-tickets : goal.returns-clause-tickets
returns-clause-tickets g c =
    ok_more _ _ c.resume_open.result (λ begun same. same ∙ ap (with_begun begun) c.take-parsing.ensures.tickets) c.resume_open.ensures.tickets

pub returns-clause-fresh : goal.returns-clause-fresh
returns-clause-fresh g c =
    told_fresh g.T.TypeSet.procedures c.resume_open.result c.args.core.now c.resume_open.new.core (Resume c.run.result.ticket (run_of_end c.run.result.outcome)) c.args.waits.now c.state_is_sound.ensures
    c.requires.awaited c.resume_open.ensures.ended

pub returns-clause-faltered : goal.returns-clause-faltered
returns-clause-faltered g c =
    err_more _ _ c.resume_open.result
    (λ up. (up.0, subst (λ k. GivesUp g.T.TypeSet.procedures k up.0 c.args.core.now c.resume_open.new.core) (c.run.ensures.ticket ∙ c.take-parsing.ensures.own) up.1)) c.resume_open.ensures.faltered
