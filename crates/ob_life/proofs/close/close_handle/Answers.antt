-- The handle goes, and its object is as its close left it, told of the handles that are left.
use Rattle.std.proofs.Common.{◌≡◌, ◌==◌, ◌&&◌, arith, sym, subst}
use Rattle.std.specs.Prelude.{Some}
use Rattle.ob_life.proofs.HandleClosed.{few_left, is_closed, closed_is_orderly}
use Rattle.ob_life.proofs.close.close_handle.Goals as goal
use Rattle.ob_space.specs.Namespace.{parts}
use Rattle.ob_space.specs.Orderly.{IsOrderly}
use Rattle.ob_model.specs.Sound.{IsSound}
use Rattle.ob_model.specs.State.{State, held_of}

pub overflow_cast-process_left : goal.overflow_cast-process_left
overflow_cast-process_left g c =
    let few = few_left g.row.T-Kind.Denot g.T.TypeSet.procedures g.T.TypeSet.idle (parts c.space.inside) (subst (IsOrderly g.T.TypeSet.idle) (sym c.space.view_is) c.requires.orderly) (subst IsSound (sym c.space.view_is) c.requires.sound) c.args.held (subst (λ (s : State _ _ _ _). held_of s c.args.held.process c.args.held.value ≡ Some c.args.held) (sym c.space.view_is) c.requires.held) c.take.new.self c.take.ensures.others c.take.ensures.processes
    (λ k. (k.process == c.args.held.process) && (k.object == c.args.held.object)) c.count_in-process_left.result c.count_in-process_left.ensures in
    omega (arith, few)

pub overflow_cast-system_left : goal.overflow_cast-system_left
overflow_cast-system_left g c =
    let few = few_left g.row.T-Kind.Denot g.T.TypeSet.procedures g.T.TypeSet.idle (parts c.space.inside) (subst (IsOrderly g.T.TypeSet.idle) (sym c.space.view_is) c.requires.orderly) (subst IsSound (sym c.space.view_is) c.requires.sound) c.args.held (subst (λ (s : State _ _ _ _). held_of s c.args.held.process c.args.held.value ≡ Some c.args.held) (sym c.space.view_is) c.requires.held) c.take.new.self c.take.ensures.others c.take.ensures.processes
    (λ k. k.object == c.args.held.object) c.count_of-system_left.result c.count_of-system_left.ensures in
    omega (arith, few)

pub returns-clause-orderly : goal.returns-clause-orderly
returns-clause-orderly g c =
    closed_is_orderly g.row.T-Kind.Denot g.T.TypeSet.procedures g.T.TypeSet.idle (parts c.space.inside) (subst (IsOrderly g.T.TypeSet.idle) (sym c.space.view_is) c.requires.orderly) (subst IsSound (sym c.space.view_is) c.requires.sound) c.args.held (subst (λ (s : State _ _ _ _). held_of s c.args.held.process c.args.held.value ≡ Some c.args.held) (sym c.space.view_is) c.requires.held) c.take.new.self c.take.ensures.others c.take.ensures.processes
    c.count_in-process_left.result c.count_of-system_left.result c.close.new.set c.close.new.self c.count_in-process_left.ensures c.count_of-system_left.ensures c.close.ensures.set c.close.ensures.closed c.closed_idle.ensures

pub returns-clause-closed : goal.returns-clause-closed
returns-clause-closed g c =
    rw (← c.space.view_is) (
    is_closed g.row.T-Kind.Denot g.T.TypeSet.procedures g.T.TypeSet.idle (parts c.space.inside) (subst (IsOrderly g.T.TypeSet.idle) (sym c.space.view_is) c.requires.orderly) (subst IsSound (sym c.space.view_is) c.requires.sound) c.args.held (subst (λ (s : State _ _ _ _). held_of s c.args.held.process c.args.held.value ≡ Some c.args.held) (sym c.space.view_is) c.requires.held) c.take.new.self c.take.ensures.others c.take.ensures.processes
    c.count_in-process_left.result c.count_of-system_left.result c.close.new.set c.close.new.self c.count_in-process_left.ensures c.count_of-system_left.ensures c.close.ensures.set c.close.ensures.closed)
