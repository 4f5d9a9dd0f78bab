-- A handle is granted, or is refused.
use Rattle.std.proofs.Common.{ap, subst}
use Rattle.std.specs.Prelude.{Result}
use Rattle.ob_model.specs.declared.reply.Answer.TheVariants.{Done}
use Rattle.ob_model.specs.Grants.{Grants}
use Rattle.ob_space.proofs.Stepping.{given, denied}
use Rattle.ob_space.proofs.giving.give_known.Goals as goal

pub returns-in-Ok-clause-step : goal.returns-in-Ok-clause-step
returns-in-Ok-clause-step g c =
    let s = c.args.space.now in
    let u = c.grant_known.new.space in
    given g.T.TypeSet.procedures s c.args.process c.args.object c.args.options c.args.reason c.args.status _ u c.in-Ok.value c.requires.settled
    (subst (λ (r : Result _ _). Grants g.T.TypeSet.procedures s c.args.process c.args.object c.args.options c.args.reason r u) c.in-Ok.is c.in_ok-value.ensures.granted)
    (ap Done c.with_handle.ensures)

pub returns-in-Err-clause-step : goal.returns-in-Err-clause-step
returns-in-Err-clause-step g c =
    let s = c.args.space.now in
    let u = c.grant_known.new.space in
    denied g.T.TypeSet.procedures s c.args.process c.args.object c.args.options c.args.reason c.args.status _ u c.in-Err.refusal
    (subst (λ (r : Result _ _). Grants g.T.TypeSet.procedures s c.args.process c.args.object c.args.options c.args.reason r u) c.in-Err.is c.in_ok-value.ensures.granted)
    (ap Done c.status_alone.ensures)
