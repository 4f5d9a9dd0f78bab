-- The variable has its number, and all others stay.
use Rattle.ob_requests.specs.Tables.{number_in, rows_in}
use Rattle.ob_requests.proofs.Written.{process_set}
use Rattle.ob_requests.proofs.variables.Variables.set_process.Goals as goal

pub returns-clause-set : goal.returns-clause-set
returns-clause-set c =
    process_set (number_in c.args.self.now.processes) (rows_in c.args.self.now.handles) _
    c.args.variable.now c.process.inside.0 c.args.process c.process.view_is (c.set-self.ensures 0)
