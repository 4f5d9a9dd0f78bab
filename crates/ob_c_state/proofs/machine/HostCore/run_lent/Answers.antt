-- The command's steps leave the opens that are pending, and so their parses.
use Rattle.ob_c_state.proofs.OneStep.{ends_in_reply, ends_in_want}
use Rattle.ob_c_state.proofs.PendingOpens.{falter_keeps, run_keeps}
use Rattle.ob_c_state.proofs.machine.HostCore.run_lent.Goals as goal

pub returns : goal.returns
returns c = ends_in_reply c.args.process c.args.command.now c.self.inside.core c.args.self.now c.run_command.new.core c.in-Ok.reply c.self.view_is c.in-Ok.ensures.done

pub returns-in_default : goal.returns-in_default
returns-in_default c = ends_in_want c.args.process c.args.command.now c.self.inside.core c.args.self.now c.run_command.new.core c.self.view_is c.in_default.ensures.faltered

pub invariant_of-self : goal.invariant_of-self
invariant_of-self c =
    falter_keeps c.self.inside.core c.state_is_sound.ensures c.self.inside.waits c.self.invariant c.run_command.new.core c.args.process c.args.command.now c.in_default.ensures.faltered

pub invariant_of-self-2 : goal.invariant_of-self-2
invariant_of-self-2 c =
    run_keeps c.self.inside.core c.state_is_sound.ensures c.self.inside.waits c.self.invariant c.run_command.new.core c.args.process c.args.command.now c.in-Ok.reply c.in-Ok.ensures.done
