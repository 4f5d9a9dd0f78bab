-- What is above the place that was reached, and then the names so far.
use Rattle.std.proofs.Common.{◌≡◌, ◌-◌, ◌++◌, map}
use Rattle.ob_model.specs.Naming.{names_joined}
use Rattle.ob_tree.specs.Tree.{path_below}
use Rattle.ob_tree.proofs.paths.way_up.Given as goal

abbrev pub invariant-loop-step : goal.invariant-loop-step
invariant-loop-step l = path_below l.fn.object l.names l.fn.object ≡ path_below (l.fn.object - l.step) l.names l.top ++ names_joined (map (λ name. name.now) l.way.items)
