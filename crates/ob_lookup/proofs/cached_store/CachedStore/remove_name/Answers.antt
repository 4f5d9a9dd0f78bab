-- The name of what is no directory leads no prefix.
use Rattle.std.proofs.Common.{◌∙◌, ◌==◌, ap, sym, subst, arith}
use Rattle.std.specs.List.{list_any}
use Rattle.std.specs.Option.{is_some}
use Rattle.ob_dirs.specs.declared.entry.DirEntry.{DirEntry}
use Rattle.ob_objects.specs.Store.{IsStore, entries_at}
use Rattle.ob_lookup.proofs.Counted.{count_kept, count_taken}
use Rattle.ob_lookup.proofs.Kept.{none_are_paths}
use Rattle.ob_lookup.proofs.Changing.{paths_without_name, was_there, none_named, other_named}
use Rattle.ob_lookup.proofs.cached_store.CachedStore.remove_name.Goals as goal

pub invariant_of-self : goal.invariant_of-self
invariant_of-self g c = (
  rw c.take_name.ensures.others (paths_without_name c.self.inside.store c.self.inside.cache c.self.invariant.0 c.len.ensures.store c.args.directory c.args.stamp
      (subst IsStore c.take_name.ensures.others c.len-in_default.ensures.store) (none_named c.self.inside.store c.args.directory c.args.stamp c.take_name.result c.take_name.ensures.there c.in_default.is)),
  rw c.take_name.ensures.others (c.self.invariant.1 ∙ sym (count_kept c.self.inside.store c.len.ensures.store c.args.directory c.args.stamp c.take_name.result c.take_name.ensures.there c.in_default.is)),
)

pub returns-in_default-clause-there : goal.returns-in_default-clause-there
returns-in_default-clause-there g c =
    sym (ap is_some c.in_default.is) ∙ was_there c.self.inside.store c.args.directory c.args.stamp c.take_name.result c.take_name.ensures.there
    ∙ ap (λ store. list_any (λ (e : DirEntry). e.stamp == c.args.stamp) (entries_at store c.args.directory)) c.self.view_is

pub overflow_sub-self : goal.overflow_sub-self
overflow_sub-self g c =
    let count = count_taken c.self.inside.store c.len.ensures.store c.args.directory c.args.stamp c.take_name.result c.in-Some.object c.take_name.ensures.there c.in-Some.is in
    omega (arith, count, c.self.invariant.1)

pub invariant_of-self-then-is_directory : goal.invariant_of-self-then-is_directory
invariant_of-self-then-is_directory g c = (
  rw c.clear.ensures (none_are_paths c.take_name.new.self c.self.inside.cache.room c.self.inside.cache.hits),
  rw c.take_name.ensures.others (
      let count = count_taken c.self.inside.store c.len.ensures.store c.args.directory c.args.stamp c.take_name.result c.in-Some.object c.take_name.ensures.there c.in-Some.is in
      omega (arith, count, c.self.invariant.1)),
)

pub invariant_of-self-else-is_directory : goal.invariant_of-self-else-is_directory
invariant_of-self-else-is_directory g c = (
  rw c.take_name.ensures.others (paths_without_name c.self.inside.store c.self.inside.cache c.self.invariant.0 c.len.ensures.store c.args.directory c.args.stamp
      (subst IsStore c.take_name.ensures.others c.len-2.ensures.store) (other_named c.self.inside.store c.args.directory c.args.stamp c.take_name.result c.take_name.ensures.there
      c.in-Some.object c.in-Some.is c.take_name.new.self c.take_name.ensures.others (sym c.is_directory.ensures ∙ c.if-is_directory.false))),
  rw c.take_name.ensures.others (
      let count = count_taken c.self.inside.store c.len.ensures.store c.args.directory c.args.stamp c.take_name.result c.in-Some.object c.take_name.ensures.there c.in-Some.is in
      omega (arith, count, c.self.invariant.1)),
)

pub returns-then-is_directory-clause-there : goal.returns-then-is_directory-clause-there
returns-then-is_directory-clause-there g c =
    sym (ap is_some c.in-Some.is) ∙ was_there c.self.inside.store c.args.directory c.args.stamp c.take_name.result c.take_name.ensures.there
    ∙ ap (λ store. list_any (λ (e : DirEntry). e.stamp == c.args.stamp) (entries_at store c.args.directory)) c.self.view_is

pub returns-else-is_directory-clause-there : goal.returns-else-is_directory-clause-there
returns-else-is_directory-clause-there g c =
    sym (ap is_some c.in-Some.is) ∙ was_there c.self.inside.store c.args.directory c.args.stamp c.take_name.result c.take_name.ensures.there
    ∙ ap (λ store. list_any (λ (e : DirEntry). e.stamp == c.args.stamp) (entries_at store c.args.directory)) c.self.view_is
