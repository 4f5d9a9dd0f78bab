-- What is there stays, and the handle is taken back.
use Rattle.std.proofs.Common.{[], None, false, refl, subst, sym}
use Rattle.ob_objects.specs.declared.object.StoredBody.TheVariants.{Directory}
use Rattle.ob_space.specs.Orderly.{IsOrderly}
use Rattle.ob_space.proofs.Placed.{next_is_free, next_is_unnamed, vacant_is_free, is_back}
use Rattle.ob_space.proofs.room.try_room.Goals as goal
use Rattle.ob_space.specs.Namespace.{parts, state_of}
use Rattle.ob_space.specs.Placing.{IsVacantSpot}
use Rattle.ob_model.specs.State.{State}

pub try_place-told-requires-clause-id : goal.try_place-told-requires-clause-id
try_place-told-requires-clause-id g c κs within =
    next_is_free g.row.T-Kind.Denot g.T.TypeSet.procedures g.T.TypeSet.idle (parts c.space.inside) (subst (IsOrderly g.T.TypeSet.idle) (sym c.space.view_is) c.requires.orderly)

pub try_place-told-requires-clause-newest : goal.try_place-told-requires-clause-newest
try_place-told-requires-clause-newest g c κs within =
    let orderly : IsOrderly g.T.TypeSet.idle (state_of g.row.T-Kind.Denot (parts c.space.inside)) = subst (IsOrderly g.T.TypeSet.idle) (sym c.space.view_is) c.requires.orderly in
    orderly.stamped

pub try_place-told-requires-clause-unnamed : goal.try_place-told-requires-clause-unnamed
try_place-told-requires-clause-unnamed g c κs within =
    next_is_unnamed g.row.T-Kind.Denot g.T.TypeSet.procedures g.T.TypeSet.idle (parts c.space.inside) (subst (IsOrderly g.T.TypeSet.idle) (sym c.space.view_is) c.requires.orderly)

pub try_place-told-requires-clause-free : goal.try_place-told-requires-clause-free
try_place-told-requires-clause-free g c κs within =
    vacant_is_free g.row.T-Kind.Denot g.T.TypeSet.procedures g.T.TypeSet.idle (parts c.space.inside) (subst (IsOrderly g.T.TypeSet.idle) (sym c.space.view_is) c.requires.orderly) c.len.ensures.store c.args.spot (subst (λ (s : State _ _ _ _). IsVacantSpot s c.args.spot) (sym c.space.view_is) c.requires.vacant)

pub returns : goal.returns
returns g c =
    rw (← c.space.view_is) (
    is_back g.row.T-Kind.Denot g.T.TypeSet.procedures g.T.TypeSet.idle (parts c.space.inside) (subst (IsOrderly g.T.TypeSet.idle) (sym c.space.view_is) c.requires.orderly) c.args.process (rw (← c.space.view_is) at c.requires.room) c.args.spot (subst (λ (s : State _ _ _ _). IsVacantSpot s c.args.spot) (sym c.space.view_is) c.requires.vacant) (record { permanent = false; exclusive = false; body = Directory [] None })
    c.in-Ok.value false c.grant.new.self c.in-Ok.ensures.unused c.in-Ok.ensures.last c.in-Ok.ensures.processes
    c.take.new.self c.take.ensures.others c.take.ensures.processes _ c.try_place-told.new.store c.try_place-told.ensures refl)
