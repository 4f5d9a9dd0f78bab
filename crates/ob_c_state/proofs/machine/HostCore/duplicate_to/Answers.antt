-- The duplicate was given by the last step, and its other value is free.
use Rattle.std.proofs.Common.{subst, sym}
use Rattle.ob_core.specs.Reached.{IsReached}
use Rattle.ob_c_state.specs.Inherit.{IsDuplicated}
use Rattle.ob_c_state.specs.Machine.{Space, host}
use Rattle.ob_c_state.proofs.Flags.{differ}
use Rattle.ob_c_state.proofs.Inherits.{given_under_it, just_given, still_free}
use Rattle.ob_c_state.proofs.machine.HostCore.duplicate_to.Goals as goal

pub revalue-requires-clause-given : goal.revalue-requires-clause-given
revalue-requires-clause-given c =
    just_given host c.args.self c.duplicate.new.self c.args.process c.args.handle c.in_ok-given.given c.args.to c.args.inherit c.in_ok-given.ensures.duplicated
    (subst (IsReached host) c.read.ensures c.state_is_reached.ensures)

pub revalue-requires-clause-free : goal.revalue-requires-clause-free
revalue-requires-clause-free c =
    still_free host c.args.self c.duplicate.new.self c.args.process c.args.handle c.in_ok-given.given c.args.to c.args.inherit c.in_ok-given.ensures.duplicated c.requires.free
    (differ c.in_ok-given.given c.args.to (sym c.if-eq.ensures))

pub returns-in-Ok-clause-duplicated : goal.returns-in-Ok-clause-duplicated
returns-in-Ok-clause-duplicated c =
    subst (λ (t : Space). IsDuplicated host c.args.self c.args.process c.args.handle c.args.inherit c.args.to t) (sym c.in-Ok.ensures)
    (given_under_it host c.args.self c.duplicate.new.self c.args.process c.args.handle c.in_ok-given.given c.args.to c.args.inherit c.in_ok-given.ensures.duplicated c.requires.free)
