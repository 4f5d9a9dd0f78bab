-- The ids from one on are a range of the map's, and the first of them the least.
use Rattle.ob_objects.specs.Slots.{objects_in}
use Rattle.ob_objects.proofs.LastBefore.{types_stand, first_of, none_from, one_from}
use Rattle.ob_objects.proofs.store.Store.first_from.Goals as goal

pub returns-in_default : goal.returns-in_default
returns-in_default g c =
    let range = c.range.ensures.in_range tt in
    none_from c.self.inside.types.entries c.args.self.now (types_stand g.T.TypeSet.procedures (objects_in c.self.inside.slots) c.args.self.now c.self.inside.types.entries c.self.invariant.0.types c.self.view_is) c.id.inside.0 c.args.id c.id.view_is (λ q from. range.5 c.in_default.ensures.steps.0 q (from, tt))

pub returns : goal.returns
returns g c =
    let range = c.range.ensures.in_range tt in
    let steps = c.in-Some.ensures.steps in
    let at = first_of _ _ _ _ steps range.1 in
    one_from c.self.inside.types.entries c.args.self.now (types_stand g.T.TypeSet.procedures (objects_in c.self.inside.slots) c.args.self.now c.self.inside.types.entries c.self.invariant.0.types c.self.view_is) c.id.inside.0 c.args.id c.id.view_is _ _ at.1 at.0.0 (λ q from there. first_of _ _ _ _ steps (range.2 q (from, tt) there))
