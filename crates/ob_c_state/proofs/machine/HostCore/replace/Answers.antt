-- A close that is refused comes after the duplicate.
use Rattle.std.proofs.Common.{subst, sym}
use Rattle.ob_c_state.specs.Machine.{host}
use Rattle.ob_c_state.proofs.Flags.{Fails, if_err, second_fails}
use Rattle.ob_c_state.proofs.machine.HostCore.replace.Goals as goal

pub returns-in_err-close-clause-refused : goal.returns-in_err-close-clause-refused
returns-in_err-close-clause-refused c =
    if_err c.from_residual-in_err-close.result (Fails host c.args.self.now c.args.process c.args.handle c.args.inherit) _
    (λ e is.
    subst (Fails host c.args.self.now c.args.process c.args.handle c.args.inherit) (sym is)
    (second_fails host c.args.self.now c.args.process c.args.handle c.args.inherit c.in_ok-value.value c.duplicate.new.self c.in_err-close.field-0.0 c.in_ok-value.ensures.duplicated
    c.in_err-close.ensures.refused)) c.from_residual-in_err-close.ensures.1
