-- The object is there, with its name and a handle, or dropped.
use Rattle.std.proofs.Common.{◌∙◌, ap}
use Rattle.ob_model.specs.declared.reply.Answer.TheVariants.{Done}
use Rattle.ob_objects.specs.Store.{body_of_stored}
use Rattle.ob_commands.specs.Making.{making_of}
use Rattle.ob_commands.proofs.Made.{makes_given}
use Rattle.ob_space.proofs.Results.{of_ok}
use Rattle.ob_commands.proofs.making.make_in_room.Goals as goal

pub returns-in-Ok-2-clause-step : goal.returns-in-Ok-2-clause-step
returns-in-Ok-2-clause-step g c =
    let s = c.args.space.now in
    let after = c.place_new.new.space in
    let accepted = of_ok _ _ c.in-Ok-2.value c.in-Ok-2.is c.in_ok-value.ensures.accepted in
    makes_given g.T.TypeSet.procedures s after c.args.process c.args.attrs c.in-Ok-2.value c.is_inherit.result c.is_inherit.ensures
    c.args.spot c.object_made-object.result c.is_some.result c.is_some.ensures
    (ap (λ x. x.permanent) c.object_made-object.ensures) (ap (λ x. x.exclusive) c.object_made-object.ensures) accepted.2 accepted.1
    (making_of c.args.making c.args.shadow) (Done c.with_handle.result) (ap (λ x. body_of_stored x.body) c.object_made-object.ensures ∙ c.in-Ok.ensures.made) c.in-Ok.ensures.accepted accepted.0
    (ap Done c.with_handle.ensures) c.requires.settled
