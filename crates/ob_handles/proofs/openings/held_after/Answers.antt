-- What comes next is the first handle of the openings after the order.
use Rattle.std.proofs.Common.{leb, rules, tests}
use Rattle.std.proofs.lemmas.Iterator.Consumers.{YieldsList-at, YieldsList-from_deque, YieldsList-from_filter_map}
use Rattle.std.proofs.lemmas.List.Sorted.{IsPartitionPoint-from_clause}
use Rattle.slab.specs.Slab.{get}
use Rattle.ob_handles.specs.Openings.{held_by}
use Rattle.ob_handles.specs.declared.openings.Opening.{Opening}
use Rattle.ob_handles.proofs.Later.{next_yielded, openings-parted, first_after}
use Rattle.ob_handles.proofs.openings.held_after.Goals as goal

pub returns : goal.returns
returns c =
    let opened = c.args.opened.now.items in
    let parted =
    IsPartitionPoint-from_clause (λ (o : Opening). leb o.order c.args.order) opened c.partition_point-before.result c.partition_point-before.ensures.partitioned
    (openings-parted opened c.args.order c.requires) (λ a r f called. search rules)
    in
    first_after (get c.args.rows.now) c.args.order opened c.partition_point-before.result _ c.next.result c.args.opened.now.ok.0 parted
    (next_yielded c.next.new.self c.next.result _ c.next.ensures.steps
    (YieldsList-from_filter_map _ (held_by (get c.args.rows.now))
    (YieldsList-at c.filter_map-handles.ensures.source (YieldsList-from_deque _ c.range.ensures.rest)) c.filter_map-handles.ensures.closure (λ x r q k. search (rules, tests))))
