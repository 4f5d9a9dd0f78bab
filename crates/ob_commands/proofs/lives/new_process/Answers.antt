-- The child has begun, and what has begun is settled.
use Rattle.std.proofs.Common.{◌≡◌, ◌∙◌, true, false, ap, sym, subst}
use Rattle.std.specs.Prelude.{MatchOption}
use Rattle.ob_model.specs.declared.reply.Answer.TheVariants.{Done}
use Rattle.ob_model.specs.declared.reply.Given.TheVariants.{Process}
use Rattle.ob_base.specs.declared.status.Status.TheVariants.{Success}
use Rattle.ob_life.specs.declared.child.Child.{Child}
use Rattle.ob_model.specs.Processes.{is_crowded, begun, values_in}
use Rattle.ob_space.proofs.Stepping.{makes_child}
use Rattle.ob_commands.proofs.lives.new_process.Goals as goal

pub returns-in-Some-clause-step : goal.returns-in-Some-clause-step
returns-in-Some-clause-step g c =
    let s = c.args.space.now in
    let t = c.begin_child.new.space in
    let after = begun g.T.TypeSet.procedures s c.args.process c.args.inherit in
    let told =
    subst (λ answer. MatchOption answer ((is_crowded s c.args.process c.args.inherit ≡ true) × (t ≡ s))
    (λ child. (is_crowded s c.args.process c.args.inherit ≡ false) × (child ≡ record { process = s.next_process; values = values_in after s.next_process }) × (t ≡ after)))
    c.in-Some.is c.in_ok-child.ensures.begun in
    makes_child g.T.TypeSet.procedures s t c.args.process c.args.inherit (Done c.with_process.result) (sym c.is_live.ensures ∙ c.if-not-is_live.false) told.0 c.requires.between.settled
    (ap Done (c.with_process.ensures ∙ ap (λ (child : Child). record { status = Success; given = Process child.process child.values }) told.1)) told.2
