-- The variable has its context; all others stay.
use Rattle.ob_requests.specs.Tables.{number_in, rows_in}
use Rattle.ob_requests.proofs.Written.{context_set}
use Rattle.ob_requests.proofs.variables.Variables.set_context.Goals as goal

pub returns : goal.returns
returns c =
    context_set (number_in c.args.self.now.processes) (rows_in c.args.self.now.handles) _ c.process.inside.0 c.args.process c.process.view_is c.args.variable.now c.args.context c.write.ensures
