-- The variable has no value and no context; all others stay.
use Rattle.ob_requests.specs.Tables.{number_in, rows_in}
use Rattle.ob_requests.proofs.Written.{value_set}
use Rattle.ob_requests.proofs.variables.Variables.give_up.Goals as goal

pub returns : goal.returns
returns c =
    value_set (number_in c.args.self.now.processes) (rows_in c.args.self.now.handles) _ c.process.inside.0 c.args.process c.process.view_is c.args.variable.now 0 c.write.ensures
