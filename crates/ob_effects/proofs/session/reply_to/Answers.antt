-- The room that was made changes no variable, and a change that isn't a child's is applied whole.
use Rattle.std.proofs.Common.{ap, ◌∙◌}
use Rattle.ob_lines.specs.Changes.{change_seen}
use Rattle.ob_lines.specs.Grammar.{request_seen}
use Rattle.ob_requests.specs.Commands.{changed}
use Rattle.ob_requests.specs.Tables.{variables_in}
use Rattle.ob_requests.specs.Variables.{Variables}
use Rattle.ob_effects.proofs.Answered.{answered, applied_whole}
use Rattle.ob_effects.proofs.session.reply_to.Goals as goal

pub returns-clause-answered : goal.returns-clause-answered
returns-clause-answered c =
    let asked = request_seen c.args.request.now in
    let reply = c.in_ok-reply.reply in
    let change = c.in_ok-command.change in
    let run = c.in_ok-reply.ensures.done in
    answered asked c.args.process (variables_in c.args.variables.now) (variables_in c.apply.new.self) c.args.core.now c.run.new.self reply (change_seen change) c.in_ok-command.ensures.change
    (c.in_ok-command.command, run.0, c.in_ok-command.ensures.command, run.1)
    (c.apply.ensures.applied
    ∙ (applied_whole change c.args.process reply (variables_in c.command_of.new.variables) (λ variable inherit is. c.in_default.not-SetsProcess variable inherit is)
    ∙ ap (λ (w : Variables). changed (change_seen change) c.args.process reply w) c.in_ok-command.ensures.same))
