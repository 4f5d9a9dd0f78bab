-- The handle is one that a run gave, under a value that names it.
use Rattle.std.proofs.Common.{◌∙◌, ap, subst, sym}
use Rattle.std.specs.Option.{option_and_then}
use Rattle.ob_base.specs.Handle.{key_of}
use Rattle.ob_core.specs.Reached.{IsReached}
use Rattle.ob_model.specs.State.{held_of}
use Rattle.ob_c_state.specs.Machine.{Space, host}
use Rattle.ob_c_state.proofs.FlagSteps.{sets_other}
use Rattle.ob_c_state.proofs.Inherits.{held_is_valid, named_by}
use Rattle.ob_c_state.proofs.machine.HostCore.set_inherit.Goals as goal

pub set_flag-requires-clause-key : goal.set_flag-requires-clause-key
set_flag-requires-clause-key c = named_by c.read-2.result.now c.args.process c.args.handle c.in-Some.held c.in-Some.ensures

pub set_flag-requires-clause-valid : goal.set_flag-requires-clause-valid
set_flag-requires-clause-valid c =
    held_is_valid host c.read-2.result.now c.args.process c.args.handle c.in-Some.held (subst (IsReached host) (c.read.ensures ∙ sym c.read-2.ensures) c.state_is_reached.ensures) c.in-Some.ensures

pub returns : goal.returns
returns c =
    sets_other c.args.process c.args.handle c.args.inherit c.args.self.now c.in-Some.held
    (c.in-Some.ensures ∙ ap (λ (s : Space). option_and_then (held_of s c.args.process) (key_of c.args.handle)) c.read-2.ensures) c.set_flag.new.self c.set_flag.result c.if-held-inherit.false
    c.set_flag.ensures
