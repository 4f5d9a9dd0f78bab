-- No open waits.
use Rattle.std.proofs.Common.{sym, subst}
use Rattle.ob_requests.specs.Tables.{variables_in}
use Rattle.ob_seats.specs.Kept.{AreHeld}
use Rattle.ob_seats.proofs.seat.Seat.with_variables.Goals as goal

pub returns-clause-held : goal.returns-clause-held
returns-clause-held g c = subst (AreHeld (variables_in c.args.variables).tickets) (sym c.new-waits.ensures) c.requires.none
