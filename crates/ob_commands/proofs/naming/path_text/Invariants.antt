-- The text so far is that of the names passed, which are the last ones.
use Rattle.std.proofs.Common.{◌≡◌, map, reverse}
use Rattle.ob_model.specs.Naming.{names_joined}
use Rattle.ob_commands.proofs.naming.path_text.Given as goal

abbrev pub invariant-loop-name : goal.invariant-loop-name
invariant-loop-name l = l.text.items ≡ names_joined (map (λ name. name.now) (reverse (map (λ name. name.now) l.yielded)))
