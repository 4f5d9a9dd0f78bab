-- The slots so far have no ticket.
use Rattle.ob_requests.proofs.Rows.{HasNoTicket}
use Rattle.ob_requests.proofs.Tables.{IsSwept}
use Rattle.ob_requests.proofs.table.has_ticket.Given as goal

abbrev pub invariant-loop-slot : goal.invariant-loop-slot
invariant-loop-slot l = IsSwept HasNoTicket l.slot l.table.entries l.table.entries
