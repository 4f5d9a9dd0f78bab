-- The opens that were copied, and those that are left, are all of them.
use Rattle.std.proofs.Common.{◌≡◌, ◌++◌, map}
use Rattle.ob_processes.proofs.pending.copied_opens.Given as goal

abbrev pub invariant-loop-ticket : goal.invariant-loop-ticket
invariant-loop-ticket g l = l.copy.entries ++ l.ticket-iterator ≡ l.opens.entries
