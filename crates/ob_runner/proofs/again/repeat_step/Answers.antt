-- The open of the event is one whose parse is kept; behind the step those of all opens that wait are.
use Rattle.ob_base.specs.declared.status.Status.TheVariants.{Success}
use Rattle.ob_model.specs.declared.reply.Event.TheVariants.{Start, Resume, Abandon}
use Rattle.ob_model.specs.Refusals.{answers}
use Rattle.ob_runner.specs.Begun.{answer_in}
use Rattle.ob_runner.proofs.Repeated.{may_resume, may_abandon, is_kept, all_behind_start, all_behind_resume, all_behind_abandon}
use Rattle.ob_runner.proofs.again.repeat_step.Goals as goal

pub end_open_as-requires-clause-there : goal.end_open_as-requires-clause-there
end_open_as-requires-clause-there g c lifetimes bounds =
    is_kept c.args.core.now c.args.waits.now c.requires.all c.in-Resume.ticket
    (may_resume c.args.core.now c.args.step.now c.in-Resume.ticket c.in-Resume.parse c.in-Resume.is c.requires.possible)

pub drop_open_as-requires-clause-there : goal.drop_open_as-requires-clause-there
drop_open_as-requires-clause-there g c lifetimes bounds =
    is_kept c.args.core.now c.args.waits.now c.requires.all c.in-Abandon.ticket
    (may_abandon c.args.core.now c.args.step.now c.in-Abandon.ticket c.in-Abandon.parse c.in-Abandon.is c.requires.possible)

pub returns-in_ok-begin_open-in-Start-clause-all : goal.returns-in_ok-begin_open-in-Start-clause-all
returns-in_ok-begin_open-in-Start-clause-all g c =
    let begun = c.in_ok-begin_open-in-Start.field-0 in
    let u = c.begin_open.new.core in
    all_behind_start c.args.core.now c.args.waits.now c.requires.all u c.begin_open.new.waits c.in-Start.process c.in-Start.command begun
    (c.opens_wait_by_their_tickets.ensures g.T.TypeSet.procedures c.args.core.now u (Start c.in-Start.process c.in-Start.command) (answer_in begun) c.in_ok-begin_open-in-Start.ensures.begun)
    c.in_ok-begin_open-in-Start.ensures.tickets

pub returns-in_ok-end_open_as-in-Resume-clause-all : goal.returns-in_ok-end_open_as-in-Resume-clause-all
returns-in_ok-end_open_as-in-Resume-clause-all g c =
    let begun = c.in_ok-end_open_as-in-Resume.field-0 in
    let u = c.end_open_as.new.core in
    all_behind_resume c.args.core.now c.args.waits.now c.requires.all u c.end_open_as.new.waits c.in-Resume.ticket c.in-Resume.parse begun
    (c.opens_wait_by_their_tickets.ensures g.T.TypeSet.procedures c.args.core.now u (Resume c.in-Resume.ticket c.in-Resume.parse) (answer_in begun) c.in_ok-end_open_as-in-Resume.ensures.ended)
    c.in_ok-end_open_as-in-Resume.ensures.tickets

pub returns-in_ok-drop_open_as-in-Abandon-clause-all : goal.returns-in_ok-drop_open_as-in-Abandon-clause-all
returns-in_ok-drop_open_as-in-Abandon-clause-all g c =
    let u = c.drop_open_as.new.core in
    all_behind_abandon c.args.core.now c.args.waits.now c.requires.all u c.drop_open_as.new.waits c.in-Abandon.ticket c.in-Abandon.parse
    (c.opens_wait_by_their_tickets.ensures g.T.TypeSet.procedures c.args.core.now u (Abandon c.in-Abandon.ticket c.in-Abandon.parse) (answers Success) c.in_ok-drop_open_as-in-Abandon.ensures.step)
    c.in_ok-drop_open_as-in-Abandon.ensures.tickets
