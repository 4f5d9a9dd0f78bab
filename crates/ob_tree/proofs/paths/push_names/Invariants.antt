-- The names passed were added, which are the last ones.
use Rattle.std.proofs.Common.{◌≡◌, ◌-◌, ◌++◌, map, drop, length}
use Rattle.ob_model.specs.Naming.{names_joined}
use Rattle.ob_tree.proofs.paths.push_names.Given as goal

abbrev pub invariant-loop-step : goal.invariant-loop-step
invariant-loop-step l = l.out.items ≡ l.initial.out.items ++ names_joined (map (λ name. name.now) (drop (length l.way - l.step) l.way))
