-- The open waited, and was given up; or it was a stranger's.
use Rattle.std.proofs.Common.{inl, inr, subst}
use Rattle.ob_model.specs.declared.reply.Event.TheVariants.{Abandon}
use Rattle.ob_locked.specs.Answers.{brought_in, run_in}
use Rattle.ob_locked.specs.Steps.{IsMade}
use Rattle.ob_shared.proofs.Chained.{abandon_succeeds}
use Rattle.ob_shared.proofs.Onward.{later_itself, later_made}
use Rattle.ob_shared.proofs.under.abandon_under.Goals as goal

pub returns-in-Ok-Done : goal.returns-in-Ok-Done
returns-in-Ok-Done g c =
    let made = c.in-Ok-Done.ensures.made in
    let after =
    inl (
      c.in-Ok-Done.ensures.admitted,
      c.step.new.locked,
      subst (λ a. IsMade g.T.TypeSet.procedures c.args.locked.now c.args.pass.now (Abandon (brought_in c.args.pending).ticket (run_in c.args.pending)) a c.step.new.locked c.step.new.pass) (abandon_succeeds g.T.TypeSet.procedures c.args.locked.now.state c.step.new.locked.state _ _ _ made.step) made,
    ) in
    record { given_up = (c.args.locked.now, c.is_kept.ensures.run, after); after = after; later = later_made g.T.TypeSet.procedures c.args.locked.now c.is_kept.ensures.run c.args.pass.now c.step.new.pass _ _ c.step.new.locked made }

pub returns-in-Err-default-None : goal.returns-in-Err-default-None
returns-in-Err-default-None g c =
    let after = inr (c.in-Err-default-None.ensures.fault.1, c.in-Err-default-None.ensures.unmade.1) in
    record { given_up = (c.args.locked.now, c.is_kept.ensures.run, after); after = after; later = later_itself g.T.TypeSet.procedures c.args.locked.now c.is_kept.ensures.run c.step.new.locked c.in-Err-default-None.ensures.unmade.0 }
