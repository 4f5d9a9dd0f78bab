-- The object is as its open left it, or the handle goes again.
use Rattle.ob_life.proofs.Openings.{one_opened, one_refused}
use Rattle.ob_life.proofs.child.inherit_one.Goals as goal
use Rattle.ob_space.specs.Namespace.{parts}

pub returns-in-Ok : goal.returns-in-Ok
returns-in-Ok g c =
    rw (← c.space.view_is) (
    one_opened g.row.T-Kind.Denot g.T.TypeSet.procedures (parts c.space.inside) c.args.child c.args.held c.open.new.set c.open.new.self
    c.in-Ok.ensures.accepted c.in-Ok.ensures.set c.in-Ok.ensures.opened)

pub returns-in-Err : goal.returns-in-Err
returns-in-Err g c =
    rw (← c.space.view_is) (
    one_refused g.row.T-Kind.Denot g.T.TypeSet.procedures (parts c.space.inside) c.args.child c.args.held c.open.new.set c.open.new.self
    c.in-Err.field-0 c.take.new.self c.in-Err.ensures.refused c.in-Err.ensures.set_unchanged c.in-Err.ensures.unchanged c.take.ensures.others c.take.ensures.processes)
