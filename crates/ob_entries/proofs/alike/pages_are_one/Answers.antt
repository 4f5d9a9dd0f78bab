-- Pages are compared entry by entry.
use Rattle.std.specs.Cmp.Lexicographic.{pointwise_decides}
use Rattle.ob_entries.proofs.alike.pages_are_one.Goals as goal

pub returns : goal.returns
returns c = pointwise_decides c.listed_are_one.ensures
