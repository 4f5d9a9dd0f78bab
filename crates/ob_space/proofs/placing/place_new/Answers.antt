-- The object is there with its handle, or both are taken back.
use Rattle.std.proofs.Common.{rules, subst, sym}
use Rattle.ob_space.specs.Orderly.{IsOrderly}
use Rattle.ob_space.proofs.Placed.{next_is_free, next_is_unnamed, vacant_is_free, placed_is_orderly, is_back, is_dropped, dropped_is_orderly}
use Rattle.ob_space.proofs.Results.{of_ok, of_err}
use Rattle.ob_space.proofs.placing.place_new.Goals as goal
use Rattle.ob_space.specs.Namespace.{parts, state_of}
use Rattle.ob_space.specs.Placing.{IsVacantSpot}
use Rattle.ob_model.specs.State.{State}

pub put_and_open-requires-clause-id : goal.put_and_open-requires-clause-id
put_and_open-requires-clause-id g c κs within =
    next_is_free g.row.T-Kind.Denot g.T.TypeSet.procedures g.T.TypeSet.idle (parts c.space.inside) (subst (IsOrderly g.T.TypeSet.idle) (sym c.space.view_is) c.requires.orderly)

pub put_and_open-requires-clause-newest : goal.put_and_open-requires-clause-newest
put_and_open-requires-clause-newest g c κs within =
    let orderly : IsOrderly g.T.TypeSet.idle (state_of g.row.T-Kind.Denot (parts c.space.inside)) = subst (IsOrderly g.T.TypeSet.idle) (sym c.space.view_is) c.requires.orderly in
    orderly.stamped

pub put_and_open-requires-clause-unnamed : goal.put_and_open-requires-clause-unnamed
put_and_open-requires-clause-unnamed g c κs within =
    next_is_unnamed g.row.T-Kind.Denot g.T.TypeSet.procedures g.T.TypeSet.idle (parts c.space.inside) (subst (IsOrderly g.T.TypeSet.idle) (sym c.space.view_is) c.requires.orderly)

pub put_and_open-requires-clause-free : goal.put_and_open-requires-clause-free
put_and_open-requires-clause-free g c κs within =
    vacant_is_free g.row.T-Kind.Denot g.T.TypeSet.procedures g.T.TypeSet.idle (parts c.space.inside) (subst (IsOrderly g.T.TypeSet.idle) (sym c.space.view_is) c.requires.orderly) c.len.ensures.store c.args.spot (subst (λ (s : State _ _ _ _). IsVacantSpot s c.args.spot) (sym c.space.view_is) c.requires.vacant)

pub returns-in-Ok-Ok-clause-orderly : goal.returns-in-Ok-Ok-clause-orderly
returns-in-Ok-Ok-clause-orderly g c =
    placed_is_orderly g.row.T-Kind.Denot g.T.TypeSet.procedures g.T.TypeSet.idle (parts c.space.inside) (subst (IsOrderly g.T.TypeSet.idle) (sym c.space.view_is) c.requires.orderly) c.args.process (rw (← c.space.view_is) at c.requires.room) c.args.spot (subst (λ (s : State _ _ _ _). IsVacantSpot s c.args.spot) (sym c.space.view_is) c.requires.vacant) c.args.object
    c.in-Ok.value c.args.inherit c.grant.new.self c.in-Ok.ensures.unused c.in-Ok.ensures.last c.in-Ok.ensures.processes
    c.put_and_open.new.set c.put_and_open.new.store (of_ok _ _ c.in-Ok-Ok.field-0-0 c.in-Ok-Ok.field-0-is c.in-Ok-Ok.ensures.opened) _ (search rules)

pub returns-in-Ok-Err-clause-orderly : goal.returns-in-Ok-Err-clause-orderly
returns-in-Ok-Err-clause-orderly g c =
    dropped_is_orderly g.row.T-Kind.Denot g.T.TypeSet.procedures g.T.TypeSet.idle (parts c.space.inside) (subst (IsOrderly g.T.TypeSet.idle) (sym c.space.view_is) c.requires.orderly) c.args.process (rw (← c.space.view_is) at c.requires.room) c.args.spot (subst (λ (s : State _ _ _ _). IsVacantSpot s c.args.spot) (sym c.space.view_is) c.requires.vacant) c.args.object
    c.in-Ok.value c.args.inherit c.grant.new.self c.in-Ok.ensures.unused c.in-Ok.ensures.last c.in-Ok.ensures.processes
    c.take.new.self c.take.ensures.others c.take.ensures.processes c.put_and_open.new.set c.put_and_open.new.store c.in-Ok-Err.code (of_err _ _ c.in-Ok-Err.code c.in-Ok-Err.field-0-is c.in-Ok-Err.ensures.refused)

pub returns-in-Ok-Err-clause-refused : goal.returns-in-Ok-Err-clause-refused
returns-in-Ok-Err-clause-refused g c =
    rw (← c.space.view_is) (
    let back = of_err _ _ c.in-Ok-Err.code c.in-Ok-Err.field-0-is c.in-Ok-Err.ensures.refused in (
      back.refused,
      is_dropped g.row.T-Kind.Denot g.T.TypeSet.procedures g.T.TypeSet.idle (parts c.space.inside) (subst (IsOrderly g.T.TypeSet.idle) (sym c.space.view_is) c.requires.orderly) c.args.process (rw (← c.space.view_is) at c.requires.room) c.args.spot (subst (λ (s : State _ _ _ _). IsVacantSpot s c.args.spot) (sym c.space.view_is) c.requires.vacant) c.args.object
          c.in-Ok.value c.args.inherit c.grant.new.self c.in-Ok.ensures.unused c.in-Ok.ensures.last c.in-Ok.ensures.processes
          c.take.new.self c.take.ensures.others c.take.ensures.processes c.put_and_open.new.set c.put_and_open.new.store c.in-Ok-Err.code back,
    ))

pub returns-in-Err-clause-orderly : goal.returns-in-Err-clause-orderly
returns-in-Err-clause-orderly g c =
    subst (λ t. IsOrderly g.T.TypeSet.idle t) (sym
    (is_back g.row.T-Kind.Denot g.T.TypeSet.procedures g.T.TypeSet.idle (parts c.space.inside) (subst (IsOrderly g.T.TypeSet.idle) (sym c.space.view_is) c.requires.orderly) c.args.process (rw (← c.space.view_is) at c.requires.room) c.args.spot (subst (λ (s : State _ _ _ _). IsVacantSpot s c.args.spot) (sym c.space.view_is) c.requires.vacant) c.args.object
    c.in-Ok.value c.args.inherit c.grant.new.self c.in-Ok.ensures.unused c.in-Ok.ensures.last c.in-Ok.ensures.processes
    c.take-in-Err.new.self c.take-in-Err.ensures.others c.take-in-Err.ensures.processes c.put_and_open.new.set c.put_and_open.new.store c.in-Err.ensures.err c.in-Err.ensures.set)) (subst (IsOrderly g.T.TypeSet.idle) (sym c.space.view_is) c.requires.orderly)

pub returns-in-Err-clause-err : goal.returns-in-Err-clause-err
returns-in-Err-clause-err g c =
    rw (← c.space.view_is) (
    is_back g.row.T-Kind.Denot g.T.TypeSet.procedures g.T.TypeSet.idle (parts c.space.inside) (subst (IsOrderly g.T.TypeSet.idle) (sym c.space.view_is) c.requires.orderly) c.args.process (rw (← c.space.view_is) at c.requires.room) c.args.spot (subst (λ (s : State _ _ _ _). IsVacantSpot s c.args.spot) (sym c.space.view_is) c.requires.vacant) c.args.object
    c.in-Ok.value c.args.inherit c.grant.new.self c.in-Ok.ensures.unused c.in-Ok.ensures.last c.in-Ok.ensures.processes
    c.take-in-Err.new.self c.take-in-Err.ensures.others c.take-in-Err.ensures.processes c.put_and_open.new.set c.put_and_open.new.store c.in-Err.ensures.err c.in-Err.ensures.set)
