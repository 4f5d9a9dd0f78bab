-- The tickets are those of the opens that wait, and each kept parse is the one that its open waits for.
use Rattle.std.proofs.Common.{◌≡◌}
use Rattle.ob_runner.specs.Begun.{AreAwaited, tickets_of}
use Rattle.ob_random_tests.proofs.game.play.Given as goal

abbrev pub invariant-loop-done : goal.invariant-loop-done
invariant-loop-done g l = AreAwaited l.core l.waits × (l.tickets.items ≡ tickets_of l.waits)
