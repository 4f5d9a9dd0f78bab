-- The entry comes last, and its stamp under its name's hash; where it can't, the index is as it was.
use Rattle.std.proofs.Common.{◌<◌, ◌∙◌, All, List, subst, sym}
use Rattle.ob_dirs.specs.declared.entry.DirEntry.{DirEntry}
use Rattle.ob_dirs.proofs.Kept.{held-taken_back, where_err}
use Rattle.ob_dirs.proofs.named.NamedEntries.insert.Goals as goal

pub invariant_of-self-then-is_err : goal.invariant_of-self-then-is_err
invariant_of-self-then-is_err c =
    let newest = subst (λ (es : List DirEntry). All (λ x. x.stamp < c.args.stamp) es) (sym c.self.view_is) c.requires.newest in
    held-taken_back c.self.inside.entries c.push.new.self c.self.inside.names c.self.invariant c.add.new.self c.take.new.self c.name_hash-hash.result c.args.stamp newest
    (where_err c.push.result _ (sym c.is_err.ensures.value ∙ c.if-is_err.true) c.push.ensures.unchanged) c.in_ok-add.ensures.last c.take.ensures
