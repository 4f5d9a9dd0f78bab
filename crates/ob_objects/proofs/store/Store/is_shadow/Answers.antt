-- An object is counted exactly where a directory has it as its shadow.
use Rattle.ob_objects.specs.Slots.{objects_in}
use Rattle.ob_objects.proofs.KeptShadows.{is_counted}
use Rattle.ob_objects.proofs.store.Store.is_shadow.Goals as goal

pub returns : goal.returns
returns g c =
    is_counted g.T.TypeSet.procedures (objects_in c.self.inside.slots) c.args.self.now c.self.inside.types.entries c.self.inside.shadows c.args.id c.get.result c.self.invariant.0.types
    c.self.invariant.0.places.is_store.rising c.len.ensures.ordered c.self.invariant.1 c.self.view_is c.get.ensures
