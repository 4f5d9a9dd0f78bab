-- The variable is set, and no open waits under it.
use Rattle.std.proofs.Common.{ap, ◌∙◌}
use Rattle.ob_requests.specs.Tables.{variables_in}
use Rattle.ob_requests.specs.Variables.{Variables, with_variable, with_ticket}
use Rattle.ob_effects.proofs.opening.keep_reply.Goals as goal

pub returns : goal.returns
returns c =
    c.clear_ticket.ensures
    ∙ ap (λ (w : Variables). with_ticket w c.args.process c.args.variable.now 0) (c.set_handle.ensures ∙ ap (with_variable (variables_in c.args.variables.now) c.args.process c.args.variable.now) c.given_handle.ensures)
