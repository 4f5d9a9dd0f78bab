-- The shadow of what is made is fit, or refused.
use Rattle.ob_model.specs.declared.reply.Answer.TheVariants.{Done}
use Rattle.ob_commands.specs.Making.{making_of}
use Rattle.ob_space.proofs.Results.{IfOk-map}
use Rattle.ob_commands.proofs.Shadowed.{unnamed_created}
use Rattle.ob_commands.proofs.creating.create_unnamed.Goals as goal

pub returns-in-Ok-clause-step : goal.returns-in-Ok-clause-step
returns-in-Ok-clause-step g c =
    let s = c.args.space.now in
    IfOk-map _ _ c.make_unnamed.result (λ reply made.
    unnamed_created g.T.TypeSet.procedures s c.make_unnamed.new.space c.args.process c.args.attrs c.args.shadow (making_of c.args.making) (Done reply) c.in-Ok.shadow c.in-Ok.ensures.0 c.in-Ok.ensures.1 made)
    c.make_unnamed.ensures.step
