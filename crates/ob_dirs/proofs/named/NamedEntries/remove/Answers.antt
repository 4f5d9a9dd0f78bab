-- The stamp of the entry goes from under its name's hash.
use Rattle.std.proofs.Common.{◌∙◌, ap, sym}
use Rattle.ob_dirs.specs.Hashes.{name_hash}
use Rattle.ob_dirs.proofs.Kept.{held-none, held-removed}
use Rattle.ob_dirs.proofs.named.NamedEntries.remove.Goals as goal

pub invariant_of-self : goal.invariant_of-self
invariant_of-self c =
    held-none c.self.inside.entries c.remove.new.self c.self.inside.names c.self.invariant c.args.stamp c.remove.ensures.others (sym c.in_err-entry.was ∙ c.remove.ensures.there)

pub invariant_of-self-2 : goal.invariant_of-self-2
invariant_of-self-2 c =
    held-removed c.self.inside.entries c.remove.new.self c.self.inside.names c.self.invariant c.args.stamp c.remove.ensures.others c.take.new.self
    (record { stamp = c.in_ok-entry.entry.stamp; name = c.in_ok-entry.entry.name; object = c.in_ok-entry.entry.object }) c.name_hash.result
    (c.name_hash.ensures ∙ ap name_hash c.as_slice.ensures.bytes) (sym c.in_ok-entry.was ∙ c.remove.ensures.there) c.take.ensures
