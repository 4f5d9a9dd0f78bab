-- The value of the handle that was replaced is free, and a later step that is refused comes after those before it.
use Rattle.std.proofs.Common.{subst, sym}
use Rattle.ob_c_state.specs.Machine.{host}
use Rattle.ob_c_state.proofs.Flags.{Fails, fourth_fails, free_again, if_err, third_fails}
use Rattle.ob_c_state.proofs.machine.HostCore.with_flag.Goals as goal

pub duplicate_to-requires : goal.duplicate_to-requires
duplicate_to-requires c = record {
  free = free_again host c.args.self c.args.process c.args.handle c.args.inherit c.in_ok-kept.kept c.replace.new.self c.in_ok-kept.ensures.replaced c.args.key c.requires.key c.requires.valid;
}

pub returns-in_err-core-clause-refused : goal.returns-in_err-core-clause-refused
returns-in_err-core-clause-refused c =
    if_err c.from_residual-in_err-core.result (Fails host c.args.self c.args.process c.args.handle c.args.inherit) _
    (λ e is.
    subst (Fails host c.args.self c.args.process c.args.handle c.args.inherit) (sym is)
    (third_fails host c.args.self c.args.process c.args.handle c.args.inherit c.in_ok-kept.kept c.replace.new.self c.in_ok-kept.ensures.replaced c.in_err-core.field-0.0 c.in_err-core.ensures.refused))
    c.from_residual-in_err-core.ensures.1

pub returns-in_err-close-clause-refused : goal.returns-in_err-close-clause-refused
returns-in_err-close-clause-refused c =
    if_err c.from_residual-in_err-close.result (Fails host c.args.self c.args.process c.args.handle c.args.inherit) _
    (λ e is.
    subst (Fails host c.args.self c.args.process c.args.handle c.args.inherit) (sym is)
    (fourth_fails host c.args.self c.args.process c.args.handle c.args.inherit c.in_ok-kept.kept c.replace.new.self c.in_ok-kept.ensures.replaced c.args.key c.requires.key c.in_ok-core.core
    c.in_err-close.field-0.0 c.in_ok-core.ensures.duplicated c.in_err-close.ensures.refused)) c.from_residual-in_err-close.ensures.1
