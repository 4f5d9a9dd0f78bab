-- The search under the component's hash finds the first entry that is named so, which is the one of least stamp.
use Rattle.std.proofs.Common.{◌∙◌, ap, rules, subst}
use Rattle.ob_dirs.specs.Dir.{IsDir}
use Rattle.ob_dirs.specs.Hashes.{name_hash}
use Rattle.ob_dirs.specs.Index.{entry_at, first_named, stamps_under}
use Rattle.ob_dirs.proofs.Earliest.{found_is_first}
use Rattle.ob_dirs.proofs.Hashed.{first_named-hashed}
use Rattle.ob_dirs.proofs.Held.{each_is_found}
use Rattle.ob_dirs.proofs.named.NamedEntries.find.Goals as goal

pub returns : goal.returns
returns c =
    let es = c.self.inside.entries in
    let component = c.args.component.now in
    let is = subst IsDir c.self.view_is c.self.invariant.dir in
    let stamps = c.stamps_under-stamps.ensures ∙ ap (stamps_under c.self.inside.names) c.name_hash.ensures ∙ c.self.invariant.index (name_hash component) in
    let named = c.first_named-named.ensures ∙ ap (first_named (entry_at es) component c.args.fold) stamps
    ∙ first_named-hashed (entry_at es) component c.args.fold es (each_is_found es c.self.invariant.dir) in
    rw (found_is_first c.args.self.now component c.args.fold is) (search (rules, named))
