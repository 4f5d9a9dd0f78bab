-- The reply is kept as it is.
use Rattle.std.proofs.Common.{ap, sym, ◌∙◌}
use Rattle.ob_runner.specs.Begun.{answer_in}
use Rattle.ob_requests.specs.Tables.{variables_in}
use Rattle.ob_effects.specs.Waiting.{variables_answered}
use Rattle.ob_effects.proofs.waiting.keep.Goals as goal

pub returns-in-Replied : goal.returns-in-Replied
returns-in-Replied c =
    c.keep_reply.ensures
    ∙ sym (ap (λ b. variables_answered (variables_in c.args.variables.now) c.args.process c.args.variable.now (answer_in b)) c.in-Replied.is)
