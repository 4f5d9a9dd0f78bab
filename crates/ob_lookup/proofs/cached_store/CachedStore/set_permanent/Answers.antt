use Rattle.std.proofs.Common.{◌∙◌, sym}
use Rattle.ob_objects.proofs.RowCounts.{count_with_permanence}
use Rattle.ob_lookup.proofs.Staying.{paths_with_permanence}
use Rattle.ob_lookup.proofs.cached_store.CachedStore.set_permanent.Goals as goal

pub invariant_of-self : goal.invariant_of-self
invariant_of-self g c = (
  rw c.set_permanent.ensures (paths_with_permanence c.self.inside.store c.self.inside.cache c.self.invariant.0 c.args.id c.args.permanent),
  rw c.set_permanent.ensures (c.self.invariant.1 ∙ sym (count_with_permanence c.self.inside.store c.args.id c.args.permanent)),
)
