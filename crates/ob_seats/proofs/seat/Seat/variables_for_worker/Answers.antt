-- No open waits.
use Rattle.std.proofs.Common.{[], refl}
use Rattle.ob_requests.specs.Tables.{variables_in}
use Rattle.ob_seats.proofs.Held.{none_under}
use Rattle.ob_seats.proofs.Told.{if_ok}
use Rattle.ob_seats.proofs.seat.Seat.variables_for_worker.Goals as goal

pub returns-clause-none : goal.returns-clause-none
returns-clause-none g c = if_ok _ _ c.variables_for_worker.result (λ variables same. none_under (variables_in c.args.self.now.variables) (variables_in variables) [] same refl) c.variables_for_worker.ensures
