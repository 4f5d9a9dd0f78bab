-- A directory that goes empties the cache; with an object go the names that lie in it.
use Rattle.std.proofs.Common.{◌∙◌, sym, arith}
use Rattle.ob_lookup.proofs.Counted.{count_removed}
use Rattle.ob_lookup.proofs.Kept.{none_are_paths}
use Rattle.ob_lookup.proofs.Staying.{paths_without_object}
use Rattle.ob_lookup.proofs.cached_store.CachedStore.remove.Goals as goal

pub overflow_sub-self : goal.overflow_sub-self
overflow_sub-self g c =
    let count = count_removed c.self.inside.store c.len.ensures.store c.args.id c.remove-stored.result c.remove-stored.ensures.there in
    omega (arith, count, c.names_in.ensures, c.self.invariant.1)

pub invariant_of-self : goal.invariant_of-self
invariant_of-self g c = (
  rw c.clear.ensures (none_are_paths c.remove-stored.new.self c.self.inside.cache.room c.self.inside.cache.hits),
  rw c.remove-stored.ensures.others (
      let count = count_removed c.self.inside.store c.len.ensures.store c.args.id c.remove-stored.result c.remove-stored.ensures.there in
      omega (arith, count, c.names_in.ensures, c.self.invariant.1)),
)

pub invariant_of-self-else-is_directory : goal.invariant_of-self-else-is_directory
invariant_of-self-else-is_directory g c = (
  rw c.remove-stored.ensures.others (paths_without_object c.self.inside.store c.self.inside.cache c.self.invariant.0 c.args.id c.len.ensures.store (rw (← c.remove-stored.ensures.there) (sym c.is_directory.ensures ∙ c.if-is_directory.false))),
  rw c.remove-stored.ensures.others (
      let count = count_removed c.self.inside.store c.len.ensures.store c.args.id c.remove-stored.result c.remove-stored.ensures.there in
      omega (arith, count, c.names_in.ensures, c.self.invariant.1)),
)
