-- A step leaves a sound and settled state, and so does none.
use Rattle.std.proofs.Common.{sym, subst}
use Rattle.ob_base.specs.declared.status.Status.TheVariants.{Success}
use Rattle.ob_model.specs.declared.reply.Event.TheVariants.{Abandon}
use Rattle.ob_model.specs.Refusals.{answers}
use Rattle.ob_model.specs.Settle.{IsSettled}
use Rattle.ob_model.proofs.Steps.{step_sound}
use Rattle.ob_model.proofs.Staying.{step_settled}
use Rattle.ob_types.specs.Pending.{run_of, brought as end_of}
use Rattle.ob_space.proofs.Looked.{same_sound}
use Rattle.ob_opens.proofs.Abandoned.{either_way}
use Rattle.ob_core.specs.Reached.{IsReached}
use Rattle.ob_core.proofs.Reached.{reached_behind}
use Rattle.ob_core.proofs.namespace.Core.abandon.Goals as goal

pub invariant_of-self : goal.invariant_of-self
invariant_of-self g c =
    let s = c.self.inside.space in
    let t = c.abandon.new.space in (
      record {
        orderly = c.abandon.ensures.orderly;
        sound = either_way c.abandon.result _
            (λ is. step_sound g.T.TypeSet.procedures s t (Abandon (end_of c.args.brought).ticket (run_of c.args.brought)) (answers Success) c.self.invariant.0.sound (c.abandon.ensures.step is))
            (λ not. same_sound s t c.self.invariant.0.sound (c.abandon.ensures.stranger not));
        settled = either_way c.abandon.result _
            (λ is. step_settled g.T.TypeSet.procedures s t (Abandon (end_of c.args.brought).ticket (run_of c.args.brought)) (answers Success) c.self.invariant.0.settled (c.abandon.ensures.step is))
            (λ not. subst IsSettled (sym (c.abandon.ensures.stranger not)) c.self.invariant.0.settled);
      },
      either_way c.abandon.result _
          (λ is. reached_behind g.T.TypeSet.procedures s t (Abandon (end_of c.args.brought).ticket (run_of c.args.brought)) (answers Success) c.self.invariant.1 (c.abandon.ensures.step is))
          (λ not. subst (IsReached g.T.TypeSet.procedures) (sym (c.abandon.ensures.stranger not)) c.self.invariant.1),
    )
