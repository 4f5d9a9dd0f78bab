-- A close takes the handle, calls the object's close and settles.
use Rattle.std.proofs.Common.{ap, sym, ◌∙◌}
use Rattle.ob_base.specs.Handle.{key_of}
use Rattle.ob_model.specs.Settle.{settle}
use Rattle.ob_model.specs.declared.reply.Answer.TheVariants.{Done}
use Rattle.ob_commands.proofs.Closed.{found_itself, closed_fit, closed_was_settled}
use Rattle.ob_space.proofs.Stepping.{closes}
use Rattle.ob_commands.proofs.closing.close.Goals as goal

pub close_handle-requires-clause-held : goal.close_handle-requires-clause-held
close_handle-requires-clause-held g c κs within =
    found_itself c.args.space.now c.args.process (key_of c.args.handle) c.in-Some.held (sym c.in-Some.ensures)

pub settle_after_loss-requires-clause-shadows : goal.settle_after_loss-requires-clause-shadows
settle_after_loss-requires-clause-shadows g c κs within =
    closed_fit g.T.TypeSet.procedures c.args.space.now c.in-Some.held c.requires.between.sound
    (found_itself c.args.space.now c.args.process (key_of c.args.handle) c.in-Some.held (sym c.in-Some.ensures))
    c.close_handle.new.space c.close_handle.ensures.closed

pub settle_after_loss-requires-clause-kept : goal.settle_after_loss-requires-clause-kept
settle_after_loss-requires-clause-kept g c κs within =
    closed_was_settled g.T.TypeSet.procedures c.args.space.now c.in-Some.held c.requires.between.sound
    (found_itself c.args.space.now c.args.process (key_of c.args.handle) c.in-Some.held (sym c.in-Some.ensures))
    c.close_handle.new.space c.requires.between.settled c.close_handle.ensures.closed

pub returns-clause-step : goal.returns-clause-step
returns-clause-step g c =
    closes g.T.TypeSet.procedures c.args.space.now _ c.args.process c.args.handle _ c.in-Some.held (sym c.is_live.ensures ∙ c.if-not-is_live.false) (sym c.in-Some.ensures)
    (ap Done c.status_alone-2.ensures) (c.settle_after_loss.ensures.settled ∙ ap (settle g.T.TypeSet.procedures) c.close_handle.ensures.closed)
