-- So far the objects without a name were collected.
use Rattle.std.proofs.Common.{◌≡◌, map, filter, take}
use Rattle.std.specs.Option.{is_none}
use Rattle.ob_tree.proofs.index.unnamed_objects.Given as goal

abbrev pub invariant-loop-object : goal.invariant-loop-object
invariant-loop-object l = l.found.items ≡ map (λ x. x.id) (filter (λ x. is_none x.row) (take l.object-index l.objects))
