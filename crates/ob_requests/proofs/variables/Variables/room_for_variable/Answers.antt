-- What is kept for no variable changes.
use Rattle.ob_requests.specs.Tables.{number_in, rows_in}
use Rattle.ob_requests.proofs.Written.{rows_same}
use Rattle.ob_requests.proofs.variables.Variables.room_for_variable.Goals as goal

pub returns-clause-same : goal.returns-clause-same
returns-clause-same c = rows_same (number_in c.args.self.now.processes) (rows_in c.args.self.now.handles) _ c.room_for.ensures.same
