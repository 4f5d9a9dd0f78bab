-- The parse that is kept under the ticket is that of the open.
use Rattle.std.proofs.Common.{◌∙◌, None, Some, option_map, ap, refl}
use Rattle.ob_c_state.proofs.Rests.{rest_given}
use Rattle.ob_c_state.proofs.machine.HostCore.rest.Goals as goal

pub returns-in_err-parse : goal.returns-in_err-parse
returns-in_err-parse c =
    ap (option_map (λ r. r.now)) c.from_residual.ensures
    ∙ rest_given c.self.inside.core c.self.inside.waits c.self.invariant c.args.ticket c.args.self.now c.self.view_is None c.in_err-parse.ensures None refl

pub returns : goal.returns
returns c =
    rest_given c.self.inside.core c.self.inside.waits c.self.invariant c.args.ticket c.args.self.now c.self.view_is (Some c.in_ok-parse.parse.now) c.in_ok-parse.ensures
    (Some c.rest.result.now) (ap (λ r. Some r) c.rest.ensures)
