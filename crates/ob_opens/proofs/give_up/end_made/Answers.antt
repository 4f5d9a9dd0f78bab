-- The instance is deleted first, since what else goes has a lesser number.
use Rattle.std.proofs.Common.{◌∙◌, ap}
use Rattle.ob_model.specs.PendingOpens.{without_pending}
use Rattle.ob_model.specs.Settle.{settle}
use Rattle.ob_space.specs.Namespace.{parts, state_of}
use Rattle.ob_opens.proofs.MadeGoes.{made_goes_with_open}
use Rattle.ob_opens.proofs.Pinning.{set_orderly}
use Rattle.ob_opens.proofs.give_up.end_made.Goals as goal

pub end_parse-requires-clause-orderly : goal.end_parse-requires-clause-orderly
end_parse-requires-clause-orderly g c κs within =
    set_orderly g.T.TypeSet.idle (state_of g.row.T-Kind.Denot (parts c.space.inside)) c.on_delete.new.self (rw (← c.space.view_is) at c.requires.between.orderly)

pub end_parse-requires-clause-shadows : goal.end_parse-requires-clause-shadows
end_parse-requires-clause-shadows g c κs within =
    let sound = rw (← c.space.view_is) at c.requires.between.sound in
    record { inside = sound.rows.inside; shadows = sound.objects.shadows }

pub end_parse-requires-clause-settled : goal.end_parse-requires-clause-settled
end_parse-requires-clause-settled g c κs within =
    let settled = rw (← c.space.view_is) at c.requires.between.settled in
    record { names = settled.names; objects = settled.objects }

pub returns-clause-ended : goal.returns-clause-ended
returns-clause-ended g c = λ face.
    rw (← c.space.view_is) (
    let s = state_of g.row.T-Kind.Denot (parts c.space.inside) in
    c.end_parse.ensures.ended ∙ ap (λ set. settle g.T.TypeSet.procedures (without_pending (record s { set = set }) c.args.ticket)) {x = c.on_delete.new.self} c.on_delete.ensures
    ∙ made_goes_with_open g.T.TypeSet.procedures s c.args.ticket (rw (← c.space.view_is) at c.requires.pending) face c.args.inner (rw (← c.space.view_is) at c.requires.between.sound) (rw (← c.space.view_is) at c.requires.between.settled)
    (rw (← c.space.view_is) at c.requires.between.orderly.rising))
