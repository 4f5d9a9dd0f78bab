-- So far the rows were collected.
use Rattle.std.proofs.Common.{◌≡◌, map, take}
use Rattle.std.specs.List.{filter_map}
use Rattle.ob_tree.specs.Index.{named_by}
use Rattle.ob_tree.specs.Tree.{entry_of}
use Rattle.ob_tree.proofs.index.unsorted_entries.Given as goal

abbrev pub invariant-loop-object : goal.invariant-loop-object
invariant-loop-object l = map named_by l.found.items ≡ map entry_of (filter_map (λ x. x.row) (take l.object-index l.objects))
