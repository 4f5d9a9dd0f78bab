-- An entry was taken exactly where one of the stamp is there.
use Rattle.std.proofs.Common.{◌∙◌, ◌==◌, ap, sym, find}
use Rattle.std.specs.Option.{is_some}
use Rattle.ob_dirs.specs.declared.entry.DirEntry.{DirEntry}
use Rattle.ob_objects.specs.Store.{entries_at}
use Rattle.ob_objects.proofs.Stands.{any_found, is_mapped_some}
use Rattle.ob_objects.proofs.store.Store.remove_name.Goals as goal

pub returns-clause-there : goal.returns-clause-there
returns-clause-there g c =
    c.is_some.ensures ∙ ap is_some c.take_name.ensures.there ∙ is_mapped_some (λ (e : DirEntry). e.object) (find (λ e. e.stamp == c.args.stamp) (entries_at c.args.self.now c.args.directory))
    ∙ sym (any_found (λ (e : DirEntry). e.stamp == c.args.stamp) (entries_at c.args.self.now c.args.directory))
