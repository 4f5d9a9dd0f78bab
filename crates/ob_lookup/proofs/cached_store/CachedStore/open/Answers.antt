use Rattle.std.proofs.Common.{◌∙◌, sym}
use Rattle.ob_objects.proofs.RowCounts.{count_opened}
use Rattle.ob_lookup.proofs.Staying.{paths_opened}
use Rattle.ob_lookup.proofs.cached_store.CachedStore.open.Goals as goal

pub invariant_of-self : goal.invariant_of-self
invariant_of-self g c = (
  rw c.open.ensures.opened (paths_opened c.self.inside.store c.self.inside.cache c.self.invariant.0 g.T.TypeSet.procedures c.args.set.now c.args.id c.args.reason),
  rw c.open.ensures.opened (c.self.invariant.1 ∙ sym (count_opened c.self.inside.store g.T.TypeSet.procedures c.args.set.now c.args.id c.args.reason)),
)
