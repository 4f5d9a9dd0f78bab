use Rattle.std.proofs.Common.{◌∙◌, sym}
use Rattle.ob_objects.proofs.RowCounts.{count_closed}
use Rattle.ob_lookup.proofs.Staying.{paths_closed}
use Rattle.ob_lookup.proofs.cached_store.CachedStore.close.Goals as goal

pub invariant_of-self : goal.invariant_of-self
invariant_of-self g c = (
  rw c.close.ensures.closed (paths_closed c.self.inside.store c.self.inside.cache c.self.invariant.0 g.T.TypeSet.procedures c.args.set.now c.args.id c.args.process_left c.args.system_left),
  rw c.close.ensures.closed (c.self.invariant.1 ∙ sym (count_closed c.self.inside.store g.T.TypeSet.procedures c.args.set.now c.args.id c.args.process_left c.args.system_left)),
)
