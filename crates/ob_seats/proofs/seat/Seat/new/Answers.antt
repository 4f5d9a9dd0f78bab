-- No open waits.
use Rattle.ob_requests.specs.Tables.{variables_in}
use Rattle.ob_seats.proofs.Held.{none_held}
use Rattle.ob_seats.proofs.seat.Seat.new.Goals as goal

pub returns-clause-held : goal.returns-clause-held
returns-clause-held g c = none_held (variables_in c.in_ok-variables.variables) c.new-2.result c.in_ok-variables.ensures c.new-2.ensures
