-- The open that waits goes on from the one that waited at first.
use Rattle.ob_shared.proofs.Chained.{GoesOn}
use Rattle.ob_shared.proofs.shared.Shared.run_on.Given as goal

abbrev pub invariant-loop : goal.invariant-loop
invariant-loop g l = GoesOn l.fn.parsing.ticket l.fn.pass l.parsing.ticket l.pass
