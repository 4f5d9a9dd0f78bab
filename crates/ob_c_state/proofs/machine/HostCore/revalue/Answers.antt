-- Another value of a handle leaves the opens that are pending, and so their parses.
use Rattle.ob_c_state.proofs.FlagSteps.{revalued_keeps}
use Rattle.ob_c_state.proofs.machine.HostCore.revalue.Goals as goal

pub invariant_of-result : goal.invariant_of-result
invariant_of-result c = revalued_keeps c.self.inside.core c.in-Ok.core c.self.inside.waits c.args.to c.in-Ok.ensures c.self.invariant
