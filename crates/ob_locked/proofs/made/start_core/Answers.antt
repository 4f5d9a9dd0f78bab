-- The values of a reply fit the rooms that were made for them, and where a copy of it wants memory nothing has changed.
use Rattle.std.proofs.Common.{refl}
use Rattle.ob_locked.proofs.Starts.{on_err, pending_then, values_fit, nothing_changed}
use Rattle.ob_locked.proofs.made.start_core.Goals as goal

pub told_twice-requires-clause-fits : goal.told_twice-requires-clause-fits
told_twice-requires-clause-fits g c =
    values_fit g.T.TypeSet.procedures c.args.core.now c.start.new.self c.state_is_sound.ensures c.args.process c.args.command.now c.in-Ok.started c.in-Ok.ensures.step _ c.in-Done.is _ _ refl c.in_ok-asked.ensures.fits

pub told_twice-requires-clause-fits_again : goal.told_twice-requires-clause-fits_again
told_twice-requires-clause-fits_again g c =
    values_fit g.T.TypeSet.procedures c.args.core.now c.start.new.self c.state_is_sound.ensures c.args.process c.args.command.now c.in-Ok.started c.in-Ok.ensures.step _ c.in-Done.is _ _ refl c.in_ok-asked.ensures.fits_again

pub returns-in_err-entry-in-Done-clause-err : goal.returns-in_err-entry-in-Done-clause-err
returns-in_err-entry-in-Done-clause-err g c =
    on_err c.from_residual-in_err-entry-in-Done.result _
    (nothing_changed g.T.TypeSet.procedures c.args.core.now c.start.new.self c.state_is_sound.ensures c.args.process c.args.command.now c.in-Ok.started c.in-Ok.ensures.step _ c.in-Done.is c.in_err-entry-in-Done.ensures.without_memory)

pub returns-in_ok-entry-in-Done-clause-pending : goal.returns-in_ok-entry-in-Done-clause-pending
returns-in_ok-entry-in-Done-clause-pending g c =
    pending_then g.T.TypeSet.procedures c.args.core.now c.start.new.self c.state_is_sound.ensures c.args.process c.args.command.now c.in-Ok.started c.in-Ok.ensures.step _ c.in-Done.is

pub returns-in-Parsing-clause-pending : goal.returns-in-Parsing-clause-pending
returns-in-Parsing-clause-pending g c =
    pending_then g.T.TypeSet.procedures c.args.core.now c.start.new.self c.state_is_sound.ensures c.args.process c.args.command.now c.in-Ok.started c.in-Ok.ensures.step _ c.in-Parsing.is
