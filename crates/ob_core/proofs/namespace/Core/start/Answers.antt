-- A step leaves a sound and settled state, and so does none.
use Rattle.ob_model.specs.declared.reply.Event.TheVariants.{Start}
use Rattle.ob_opens.specs.Waiting.{answer_of}
use Rattle.ob_core.proofs.Reached.{reached_stepped}
use Rattle.ob_core.proofs.Stepped.{stepped}
use Rattle.ob_core.proofs.namespace.Core.start.Goals as goal

pub invariant_of-self : goal.invariant_of-self
invariant_of-self g c = (
  stepped g.T.TypeSet.procedures g.T.TypeSet.idle c.self.inside.space c.step_for.new.space (Start c.args.process c.args.command.now) c.step_for.result answer_of
      c.self.invariant.0 c.step_for.ensures.orderly c.step_for.ensures.step c.step_for.ensures.err,
  reached_stepped g.T.TypeSet.procedures c.self.inside.space c.step_for.new.space (Start c.args.process c.args.command.now) c.step_for.result answer_of
      c.self.invariant.1 c.step_for.ensures.step c.step_for.ensures.err,
)
