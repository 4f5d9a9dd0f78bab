-- The rows and the openings stay, and so does all that holds of them.
use Rattle.std.proofs.Common.{refl, ap}
use Rattle.slab.specs.Slab.{get, slab_len}
use Rattle.ob_handles.proofs.Inside.{inside_stays}
use Rattle.ob_handles.proofs.slab_table.SlabTableHandleTable.reserve.Goals as goal

pub invariant_of-self : goal.invariant_of-self
invariant_of-self c =
    inside_stays (get c.self.inside.rows) (get c.reserve.new.self) c.self.inside.foreign.entries c.self.inside.foreign.entries c.self.inside.opened.items c.self.inside.opened.items (slab_len c.self.inside.rows) (slab_len c.reserve.new.self)
    (ap get c.reserve.ensures.rest_kept) refl refl (ap slab_len c.reserve.ensures.rest_kept) c.self.invariant

pub invariant_of-self-2 : goal.invariant_of-self-2
invariant_of-self-2 c =
    inside_stays (get c.self.inside.rows) (get c.reserve.new.self) c.self.inside.foreign.entries c.self.inside.foreign.entries c.self.inside.opened.items c.reserve-2.new.self.items (slab_len c.self.inside.rows) (slab_len c.reserve.new.self)
    (ap get c.reserve.ensures.rest_kept) refl c.reserve-2.ensures.items (ap slab_len c.reserve.ensures.rest_kept) c.self.invariant
