-- An open that begins to wait is pending last, and its parse is kept.
use Rattle.std.proofs.Common.{Result, IfOk, subst, sym}
use Rattle.std.specs.Prelude.{IsSome}
use Rattle.ob_base.specs.declared.status.Status.{Status}
use Rattle.ob_model.specs.PendingOpens.{pending_of}
use Rattle.ob_model.specs.declared.reply.Event.TheVariants.{Start}
use Rattle.ob_runner.specs.Begun.{IfWaits}
use Rattle.ob_runner.specs.declared.begun.Begun.{Begun}
use Rattle.ob_c_state.proofs.PendingOpens.{begin_falters, begin_keeps, begun_pending}
use Rattle.ob_c_state.specs.Machine.{host}
use Rattle.ob_c_state.proofs.machine.HostCore.begin_lent.Goals as goal
use Rattle.ob_c_state.proofs.machine.HostCore.begin_lent.Goals.{in-Ok, in-Err}

pub invariant_of-self : goal.invariant_of-self
invariant_of-self c = elim c.match-begin_open.branch [
  | in-Ok w ↦
      begin_keeps c.self.inside.core c.state_is_sound.ensures c.self.inside.waits c.self.invariant c.begin_open.new.core c.begin_open.new.waits c.begin_open.ensures.awaited
      c.args.process c.args.command.now w.in-Ok.begun w.in-Ok.ensures.begun w.in-Ok.ensures.tickets
  | in-Err w ↦
      begin_falters c.self.inside.core c.state_is_sound.ensures c.self.inside.waits c.self.invariant c.begin_open.new.core c.begin_open.new.waits c.begin_open.ensures.awaited
      c.args.process c.args.command.now w.in-Err.ensures.faltered w.in-Err.ensures.kept
]

pub returns-clause-pending : goal.returns-clause-pending
returns-clause-pending c = elim c.match-begin_open.branch [
  | in-Ok w ↦
      subst (λ (r : Result Begun Status). IfOk r (λ begun. IfWaits begun (λ n. IsSome (pending_of c.begin_open.new.core n)))) (sym w.result-is)
      (begun_pending host c.self.inside.core c.begin_open.new.core (Start c.args.process c.args.command.now) w.in-Ok.begun c.state_is_sound.ensures w.in-Ok.ensures.begun)
  | in-Err w ↦ subst (λ (r : Result Begun Status). IfOk r (λ begun. IfWaits begun (λ n. IsSome (pending_of c.begin_open.new.core n)))) (sym w.result-is) tt
]
