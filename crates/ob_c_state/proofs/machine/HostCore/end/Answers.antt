-- The open is pending, so its parse is kept; it is resumed with that, once.
use Rattle.std.proofs.Common.{Result, subst, sym}
use Rattle.ob_base.specs.declared.status.Status.{Status}
use Rattle.ob_model.specs.PendingOpens.{pending_of}
use Rattle.ob_model.specs.declared.reply.Reply.{Reply}
use Rattle.ob_runner.proofs.Repeated.{is_kept}
use Rattle.ob_c_state.specs.Pending.{EndsPending}
use Rattle.ob_c_state.proofs.PendingOpens.{end_falters, end_keeps}
use Rattle.ob_c_state.proofs.Phases.{ends_in_reply, ends_in_want, never_waits}
use Rattle.ob_c_state.proofs.Rests.{is_there}
use Rattle.ob_c_state.proofs.machine.HostCore.end.Goals as goal
use Rattle.ob_c_state.proofs.machine.HostCore.end.Goals.{in-Ok-Replied, in-Err}

pub end_open-requires-clause-there : goal.end_open-requires-clause-there
end_open-requires-clause-there c lifetimes =
    is_kept c.self.inside.core c.self.inside.waits c.self.invariant.1 c.args.ticket (is_there (pending_of c.self.inside.core c.args.ticket) c.in-Some.field-0 c.in-Some.ensures)

pub unreachable-requires : goal.unreachable-requires
unreachable-requires c =
    never_waits c.self.inside.core c.args.ticket c.end_open.new.core c.in-Ok-Waits.field-0 c.in-Ok-Waits.field-0-0 c.in-Ok-Waits.field-0-is c.in-Ok-Waits.ensures.ended

pub invariant_of-self : goal.invariant_of-self
invariant_of-self c = elim c.match-end_open.branch [
  | in-Ok-Replied w ↦
      end_keeps c.self.inside.core c.state_is_sound.ensures c.self.inside.waits c.self.invariant c.end_open.new.core c.end_open.new.waits c.end_open.ensures.awaited c.args.ticket
      w.in-Ok-Replied.ensures.ended.0 w.in-Ok-Replied.field-0 w.in-Ok-Replied.ensures.ended.2 w.in-Ok-Replied.ensures.tickets
  | in-Err w ↦
      end_falters c.self.inside.core c.state_is_sound.ensures c.self.inside.waits c.self.invariant c.end_open.new.core c.end_open.new.waits c.end_open.ensures.awaited c.args.ticket
      w.in-Err.ensures.faltered w.in-Err.ensures.kept
]

pub returns : goal.returns
returns c = elim c.match-end_open.branch [
  | in-Ok-Replied w ↦
      subst (λ (r : Result Reply Status). EndsPending c.args.ticket c.args.self.now r c.end_open.new.core) (sym w.result-is)
      (ends_in_reply c.self.inside.core c.args.ticket c.end_open.new.core c.args.self.now c.self.view_is c.in-Some.field-0 c.in-Some.ensures w.in-Ok-Replied.field-0 w.in-Ok-Replied.reply
      w.in-Ok-Replied.field-0-is w.in-Ok-Replied.ensures.ended)
  | in-Err w ↦
      subst (λ (r : Result Reply Status). EndsPending c.args.ticket c.args.self.now r c.end_open.new.core) (sym w.result-is)
      (ends_in_want c.self.inside.core c.args.ticket c.end_open.new.core c.args.self.now c.self.view_is c.in-Some.field-0 c.in-Some.ensures w.in-Err.ensures.faltered)
]
