-- The search by the id among the objects.
use Rattle.std.proofs.Common.{sym, refl}
use Rattle.ob_objects.specs.Slots.{objects_in}
use Rattle.ob_objects.proofs.KeptSlots.{object_found}
use Rattle.ob_objects.proofs.Written.{found_stored}
use Rattle.ob_objects.proofs.store.Store.get.Goals as goal

pub returns-clause-stored : goal.returns-clause-stored
returns-clause-stored g c =
    found_stored (objects_in c.self.inside.slots) c.args.self.now c.args.id c.args.id _ (sym (object_found c.self.inside.slots c.args.id _ (sym c.object.ensures))) c.self.view_is refl
