-- A step that is refused on the copy is refused in the namespace, which stays.
use Rattle.std.proofs.Common.{subst}
use Rattle.ob_c_state.specs.Machine.{Space, host}
use Rattle.ob_c_state.proofs.Flags.{Fails}
use Rattle.ob_c_state.proofs.FlagSteps.{flag_stays}
use Rattle.ob_c_state.proofs.machine.HostCore.set_flag.Goals as goal

pub returns-in-Err : goal.returns-in-Err
returns-in-Err c =
    flag_stays c.args.process c.args.handle c.args.inherit c.args.self.now c.in-Err.status
    (subst (λ (s : Space). Fails host s c.args.process c.args.handle c.args.inherit c.in-Err.status) c.in-Ok.ensures c.in-Err.ensures.refused)
