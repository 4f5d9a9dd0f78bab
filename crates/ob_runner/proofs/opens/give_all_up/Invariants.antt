-- What is left is given up behind what was, and its opens wait for it.
use Rattle.std.proofs.Common.{length}
use Rattle.ob_runner.specs.Begun.{AreAwaited, tickets_of}
use Rattle.ob_runner.proofs.Beside.{GivesTheRest}
use Rattle.ob_runner.proofs.opens.give_all_up.Given as goal

abbrev pub invariant-loop-parsing : goal.invariant-loop-parsing
invariant-loop-parsing g l = AreAwaited l.core l.left × GivesTheRest g.T.TypeSet.procedures (tickets_of l.fn.waits) l.fn.core (tickets_of l.left) l.core

abbrev pub decreases-loop-parsing : goal.decreases-loop-parsing
decreases-loop-parsing g l = length l.left
