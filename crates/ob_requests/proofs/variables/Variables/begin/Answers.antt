-- The process has the variables of the table, and no contexts; all others stay.
use Rattle.ob_requests.specs.Tables.{number_in, row_in, rows_in}
use Rattle.ob_requests.proofs.Written.{variables_set}
use Rattle.ob_requests.proofs.variables.Variables.begin.Goals as goal

pub returns-clause-variables : goal.returns-clause-variables
returns-clause-variables c =
    variables_set (number_in c.args.self.now.processes) (rows_in c.args.self.now.handles) _ c.process.inside.0 c.args.process c.process.view_is (row_in c.args.table)
    c.requires.begins c.replace.ensures
