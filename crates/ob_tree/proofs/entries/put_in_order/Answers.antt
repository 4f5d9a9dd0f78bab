-- Sorted entries are those of their names in order.
use Rattle.ob_tree.proofs.Ranges.{sorted_names}
use Rattle.ob_tree.proofs.entries.put_in_order.Goals as goal

pub returns-clause-sorted : goal.returns-clause-sorted
returns-clause-sorted c = sorted_names c.args.entries.now.items c.sort_unstable.new.self.items c.sort_unstable.ensures.permutation c.sort_unstable.ensures.sorted
