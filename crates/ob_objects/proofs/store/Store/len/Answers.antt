-- As many types are kept as there are objects.
use Rattle.std.proofs.Common.{◌∙◌, ap, length}
use Rattle.ob_objects.specs.Slots.{objects_in}
use Rattle.ob_objects.proofs.KeptTypes.{as_many_types}
use Rattle.ob_objects.proofs.store.Store.len.Goals as goal

pub returns-clause-count : goal.returns-clause-count
returns-clause-count g c =
    c.len.ensures.len
    ∙ as_many_types g.T.TypeSet.procedures (objects_in c.self.inside.slots) c.self.inside.types.entries c.self.invariant.0.types c.self.invariant.0.places.is_store.rising c.len.ensures.ordered
    ∙ ap length c.self.view_is
