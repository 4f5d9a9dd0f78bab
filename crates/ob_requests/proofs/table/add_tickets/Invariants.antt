-- The variables of the slots so far have their tickets.
use Rattle.std.proofs.Common.{◌≡◌, List, ℕ, take}
use Rattle.ob_requests.specs.declared.variable.Write.TheVariants.{Ticket}
use Rattle.ob_requests.specs.Rows.{no_row, written}
use Rattle.ob_requests.specs.Tables.{number_among, row_in}
use Rattle.ob_requests.proofs.table.add_tickets.Given as goal

abbrev pub invariant-loop-slot : goal.invariant-loop-slot
invariant-loop-slot l =
    (variable : List ℕ) → row_in l.table variable ≡ written (row_in l.initial.table variable) (Ticket (number_among no_row (take l.slot l.from.entries) variable).ticket)
