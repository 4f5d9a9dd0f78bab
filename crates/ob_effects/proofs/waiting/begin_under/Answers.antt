-- The open begins with the variables as they were.
use Rattle.std.proofs.Common.{◌≡◌, ap, inr, refl, ◌∙◌}
use Rattle.ob_model.specs.declared.reply.Event.TheVariants.{Start}
use Rattle.ob_runner.specs.Begun.{answer_in}
use Rattle.ob_runner.proofs.Results.{on_err}
use Rattle.ob_requests.specs.Tables.{variables_in}
use Rattle.ob_requests.specs.Variables.{Variables}
use Rattle.ob_effects.specs.Waiting.{variables_answered}
use Rattle.ob_effects.proofs.waiting.begin_under.Goals as goal

pub returns-in_err-begun-clause-stopped : goal.returns-in_err-begun-clause-stopped
returns-in_err-begun-clause-stopped c =
    let faltered = c.in_err-begun.ensures.faltered in
    on_err _ c.from_residual-in_err-begun.result (faltered.0, (inr (c.in_ok-command.command, c.in_ok-command.ensures.command, faltered.1), c.open_command.ensures.same))

pub returns-clause-carried : goal.returns-clause-carried
returns-clause-carried c = (
  (Start c.args.process c.in_ok-command.command, (c.in_ok-command.command, c.in_ok-command.ensures.command, refl), c.in_ok-begun.ensures.begun),
  c.keep.ensures ∙ ap (λ (w : Variables). variables_answered w c.args.process c.args.variable.now (answer_in c.in_ok-begun.begun)) c.open_command.ensures.same,
)
