-- The ids below the bound are a range of the map's, and the last of them the greatest.
use Rattle.ob_objects.specs.Slots.{objects_in}
use Rattle.ob_objects.proofs.LastBefore.{types_stand, none_before, one_before}
use Rattle.ob_objects.proofs.store.Store.last_before.Goals as goal

pub returns-in_default : goal.returns-in_default
returns-in_default g c =
    let range = c.range.ensures.in_range tt in
    none_before c.self.inside.types.entries c.args.self.now (types_stand g.T.TypeSet.procedures (objects_in c.self.inside.slots) c.args.self.now c.self.inside.types.entries c.self.invariant.0.types c.self.view_is) c.id.inside.0 c.args.id c.id.view_is (λ q less. range.5 c.in_default.ensures.steps.0 q (tt, less))

pub returns : goal.returns
returns g c =
    let range = c.range.ensures.in_range tt in
    let at = range.3 _ _ c.in-Some.ensures.steps in
    one_before c.self.inside.types.entries c.args.self.now (types_stand g.T.TypeSet.procedures (objects_in c.self.inside.slots) c.args.self.now c.self.inside.types.entries c.self.invariant.0.types c.self.view_is) c.id.inside.0 c.args.id c.id.view_is _ _ at.1 at.0.1 (λ q less. range.4 _ _ c.in-Some.ensures.steps q (tt, less))
