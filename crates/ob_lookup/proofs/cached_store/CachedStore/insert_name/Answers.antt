-- Where no prefix is of a local view, and the directory has no shadow, a name more leaves each where it led. It counts once.
use Rattle.std.proofs.Common.{◌∙◌, ◌+◌, ap, sym, subst}
use Rattle.ob_objects.specs.Store.{IsStore}
use Rattle.ob_objects.proofs.RowCounts.{count_with_name}
use Rattle.ob_lookup.proofs.Kept.{none_are_paths}
use Rattle.ob_lookup.proofs.Changing.{paths_with_name, plain_told}
use Rattle.ob_lookup.proofs.cached_store.CachedStore.insert_name.Goals as goal

pub invariant_of-self-else-is_some : goal.invariant_of-self-else-is_some
invariant_of-self-else-is_some g c =
    let put = c.in_ok-insert_name.ensures.last in (
      rw put (paths_with_name c.self.inside.store c.self.inside.cache c.self.invariant.0 c.len.ensures.store c.args.directory
          (record { stamp = c.args.stamp; name = c.args.name; object = c.args.object }) (rw c.self.view_is c.requires.there)
          (plain_told c.self.inside.store c.insert_name.new.self c.args.directory (record { stamp = c.args.stamp; name = c.args.name; object = c.args.object }) c.shadow_of.result put c.shadow_of.ensures
          (sym c.is_some.ensures ∙ c.if-is_some.false))
          (subst IsStore put c.len-2.ensures.store) (c.may_be_local.ensures c.if-may_be_local.false)),
      rw put (c.in_ok-names.ensures ∙ ap (λ n. n + 1) c.self.invariant.1
          ∙ sym (count_with_name c.self.inside.store c.len.ensures.store c.args.directory (record { stamp = c.args.stamp; name = c.args.name; object = c.args.object }) (rw c.self.view_is c.requires.there))),
    )

pub invariant_of-self-then-may_be_local : goal.invariant_of-self-then-may_be_local
invariant_of-self-then-may_be_local g c = (
  rw c.clear.ensures (none_are_paths c.insert_name.new.self c.self.inside.cache.room c.self.inside.cache.hits),
  rw c.in_ok-insert_name.ensures.last (c.in_ok-names.ensures ∙ ap (λ n. n + 1) c.self.invariant.1
      ∙ sym (count_with_name c.self.inside.store c.len.ensures.store c.args.directory (record { stamp = c.args.stamp; name = c.args.name; object = c.args.object }) (rw c.self.view_is c.requires.there))),
)
