-- A step leaves a sound and settled state, and so does none.
use Rattle.ob_model.specs.declared.reply.Event.TheVariants.{Resume}
use Rattle.ob_types.specs.Pending.{run_of_end}
use Rattle.ob_opens.specs.Waiting.{answer_of}
use Rattle.ob_core.proofs.Reached.{reached_stepped}
use Rattle.ob_core.proofs.Stepped.{stepped}
use Rattle.ob_core.proofs.namespace.Core.resume.Goals as goal

pub invariant_of-self : goal.invariant_of-self
invariant_of-self g c = (
  stepped g.T.TypeSet.procedures g.T.TypeSet.idle c.self.inside.space c.resume.new.space (Resume c.args.parsed.ticket (run_of_end c.args.parsed.outcome)) c.resume.result answer_of
      c.self.invariant.0 c.resume.ensures.orderly c.resume.ensures.step c.resume.ensures.err,
  reached_stepped g.T.TypeSet.procedures c.self.inside.space c.resume.new.space (Resume c.args.parsed.ticket (run_of_end c.args.parsed.outcome)) c.resume.result answer_of
      c.self.invariant.1 c.resume.ensures.step c.resume.ensures.err,
)
