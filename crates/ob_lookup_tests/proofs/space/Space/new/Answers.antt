-- The root is the first object.
use Rattle.std.proofs.Common.{◌∙◌, rules}
use Rattle.ob_lookup_tests.proofs.Spaces.{first_space}
use Rattle.ob_lookup_tests.proofs.space.Space.new.Goals as goal

pub invariant_of-result : goal.invariant_of-result
invariant_of-result g c =
    first_space c.new-store.result c.insert.new.self c.temporary-root.result c.new-store.ensures (search rules) (c.temporary-root.ensures ∙ c.directory.ensures)
