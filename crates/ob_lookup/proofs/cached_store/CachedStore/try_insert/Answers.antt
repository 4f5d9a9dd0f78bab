use Rattle.std.proofs.Common.{◌≡◌, ◌∙◌, length, sym}
use Rattle.ob_lookup.specs.Prefixes.{ArePaths}
use Rattle.ob_objects.specs.Store.{rows_of}
use Rattle.ob_objects.proofs.RowCounts.{count_with_entry}
use Rattle.ob_objects.specs.Changes.{with_entry}
use Rattle.ob_lookup.proofs.Staying.{of_insertion, paths_with_entry}
use Rattle.ob_lookup.proofs.cached_store.CachedStore.try_insert.Goals as goal

pub invariant_of-self : goal.invariant_of-self
invariant_of-self g c = (
  of_insertion (λ store. ArePaths g.row.T-Kind.Denot g.row.T.Denot g.row.T-Face.Denot g.row.T-Inner.Denot store c.self.inside.cache)
      c.try_insert.result (with_entry c.self.inside.store c.args.id c.args.object) c.self.inside.store c.try_insert.new.self
      c.try_insert.ensures.put c.try_insert.ensures.unchanged
      (paths_with_entry c.self.inside.store c.self.inside.cache c.self.invariant.0 c.args.id c.args.object (rw c.self.view_is c.requires.free) c.requires.empty)
      c.self.invariant.0,
  of_insertion (λ store. c.self.inside.names ≡ length (rows_of store)) c.try_insert.result (with_entry c.self.inside.store c.args.id c.args.object) c.self.inside.store c.try_insert.new.self
      c.try_insert.ensures.put c.try_insert.ensures.unchanged
      (c.self.invariant.1 ∙ sym (count_with_entry c.self.inside.store c.args.id c.args.object c.requires.empty)) c.self.invariant.1,
)
