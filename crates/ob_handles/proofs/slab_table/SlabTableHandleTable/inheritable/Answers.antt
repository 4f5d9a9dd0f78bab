-- What is collected passed the test, of all handles that openings lead to.
use Rattle.std.proofs.Common.{rules, tests}
use Rattle.std.proofs.lemmas.Iterator.{items_from_collect}
use Rattle.std.proofs.lemmas.Iterator.Consumers.{YieldsList-at, YieldsList-from_deque, YieldsList-from_filter, YieldsList-from_filter_map}
use Rattle.slab.specs.Slab.{get}
use Rattle.ob_handles.specs.Openings.{held_by}
use Rattle.ob_handles.proofs.slab_table.SlabTableHandleTable.inheritable.Goals as goal

pub returns : goal.returns
returns c =
    rw (← c.self.view_is)
    (items_from_collect _ c.collect.ensures.ran
    (YieldsList-from_filter _ (λ h. h.inherit)
    (YieldsList-at c.filter.ensures.source
    (YieldsList-from_filter_map _ (held_by (get c.self.inside.rows))
    (YieldsList-at c.filter_map-handles.ensures.source (YieldsList-from_deque c.self.inside.opened.items c.iter.ensures.rest)) c.filter_map-handles.ensures.closure
    (λ x r q k. search (rules, tests))))
    c.filter.ensures.closure (λ x b q k. search (rules, tests))))
