-- The variable has its value, and no context; all others stay.
use Rattle.std.proofs.Common.{ap, ◌∙◌}
use Rattle.ob_requests.specs.Tables.{number_in, rows_in, variables_in}
use Rattle.ob_requests.specs.Variables.{with_variable}
use Rattle.ob_requests.proofs.Written.{value_set}
use Rattle.ob_requests.proofs.variables.Variables.set_handle.Goals as goal

pub returns : goal.returns
returns c =
    value_set (number_in c.args.self.now.processes) (rows_in c.args.self.now.handles) _ c.process.inside.0 c.args.process c.process.view_is c.args.variable.now c.handle.inside.0 c.write.ensures
    ∙ ap (with_variable (variables_in c.args.self.now) c.args.process c.args.variable.now) c.handle.view_is
