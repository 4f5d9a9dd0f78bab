-- The types stay.
use Rattle.std.proofs.Common.{◌≡◌}
use Rattle.ob_objects.proofs.walk.Walk.near.Given as goal

abbrev pub invariant-loop : goal.invariant-loop
invariant-loop g l = l.self ≡ l.fn.self
