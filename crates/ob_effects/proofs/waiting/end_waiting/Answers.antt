-- The open that waits under the variable is resumed, or given up.
use Rattle.std.proofs.Common.{◌≡◌, ap, sym, subst, inr, ◌∙◌}
use Rattle.ob_model.specs.declared.reply.Event.TheVariants.{Resume}
use Rattle.ob_runner.specs.Begun.{answer_in}
use Rattle.ob_runner.specs.Completes.{GivesUp}
use Rattle.ob_standard.specs.Standard.{standard}
use Rattle.ob_requests.specs.Tables.{variables_in}
use Rattle.ob_requests.specs.Variables.{Variables, with_ticket}
use Rattle.ob_effects.specs.Waiting.{variables_answered}
use Rattle.ob_effects.proofs.waiting.end_waiting.Goals as goal

pub returns-in-Ok-clause-carried : goal.returns-in-Ok-clause-carried
returns-in-Ok-clause-carried c =
    let same : variables_in c.room_for_variable.new.self ≡ variables_in c.args.variables.now = c.in_ok-room_for_variable.ensures.same in
    let ended = c.in-Ok.ensures.ended in (
      (Resume c.args.ticket ended.0, (ended.0, ended.1, ap (λ n. Resume n ended.0) (sym c.requires.under)), ended.2),
      c.keep.ensures ∙ ap (λ (w : Variables). variables_answered w c.args.process c.args.variable.now (answer_in c.in-Ok.begun)) same,
    )

pub returns-in-Err-clause-stopped : goal.returns-in-Err-clause-stopped
returns-in-Err-clause-stopped c =
    let same : variables_in c.room_for_variable.new.self ≡ variables_in c.args.variables.now = c.in_ok-room_for_variable.ensures.same in
    let faltered = c.in-Err.ensures.faltered in (
      faltered.0,
      inr (
        subst (λ n. GivesUp standard n faltered.0 c.args.core.now c.end.new.core) (sym c.requires.under) faltered.1,
        c.clear_ticket.ensures ∙ ap (λ (w : Variables). with_ticket w c.args.process c.args.variable.now 0) same,
      ),
    )

pub returns-in-Err-clause-kept : goal.returns-in-Err-clause-kept
returns-in-Err-clause-kept c =
    let same : variables_in c.room_for_variable.new.self ≡ variables_in c.args.variables.now = c.in_ok-room_for_variable.ensures.same in
    inr (c.clear_ticket.ensures ∙ ap (λ (w : Variables). with_ticket w c.args.process c.args.variable.now 0) same, c.in-Err.ensures.kept)
