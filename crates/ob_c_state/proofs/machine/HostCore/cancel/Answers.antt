-- The open is pending, so its parse is kept; it is abandoned.
use Rattle.ob_model.specs.PendingOpens.{pending_of}
use Rattle.ob_runner.proofs.Repeated.{is_kept}
use Rattle.ob_c_state.proofs.PendingOpens.{cancel_keeps}
use Rattle.ob_c_state.proofs.Phases.{cancels_it}
use Rattle.ob_c_state.proofs.Rests.{is_there}
use Rattle.ob_c_state.proofs.machine.HostCore.cancel.Goals as goal

pub drop_open-requires-clause-there : goal.drop_open-requires-clause-there
drop_open-requires-clause-there c lifetimes =
    is_kept c.self.inside.core c.self.inside.waits c.self.invariant.1 c.args.ticket (is_there (pending_of c.self.inside.core c.args.ticket) c.in-Some.field-0 c.in-Some.ensures)

pub invariant_of-self : goal.invariant_of-self
invariant_of-self c =
    cancel_keeps c.self.inside.core c.state_is_sound.ensures c.self.inside.waits c.self.invariant c.drop_open.new.core c.drop_open.new.waits c.drop_open.ensures.awaited c.args.ticket
    c.drop_open.ensures.step c.drop_open.ensures.tickets

pub returns : goal.returns
returns c =
    cancels_it c.self.inside.core c.args.ticket c.drop_open.new.core c.args.self.now c.self.view_is c.in-Some.field-0 c.in-Some.ensures c.drop_open.ensures.step
