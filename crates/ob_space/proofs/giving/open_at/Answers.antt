-- What an open of an object that was found is given.
use Rattle.std.proofs.Common.{sym, ◌∙◌, subst}
use Rattle.ob_model.specs.declared.terms.Reason.TheVariants.{Opened}
use Rattle.ob_model.specs.Opens.{GivesHandle}
use Rattle.ob_model.specs.declared.terms.GrantOptions.{GrantOptions}
use Rattle.ob_model.specs.declared.reply.Answer.TheVariants.{Done}
use Rattle.ob_space.proofs.Results.{IfOk-map}
use Rattle.ob_space.proofs.Stepping.{opens_at}
use Rattle.ob_space.proofs.giving.open_at.Goals as goal

pub returns-clause-step : goal.returns-clause-step
returns-clause-step g c =
    let s = c.args.space.now in
    let t = c.give_known.new.space in
    IfOk-map _ _ c.give_known.result
    (λ reply given. opens_at g.T.TypeSet.procedures s t c.args.process c.args.object c.args.attrs c.args.wanted c.args.status (Done reply) (sym c.judge_object-fits.ensures.wanted ∙ c.if-not-fits.false)
    (subst (λ (q : GrantOptions). GivesHandle g.T.TypeSet.procedures s c.args.process c.args.object q Opened c.args.status (Done reply) t) c.by-options.ensures given))
    c.give_known.ensures.step
