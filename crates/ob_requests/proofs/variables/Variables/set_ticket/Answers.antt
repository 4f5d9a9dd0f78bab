-- The variable has its ticket; all others stay.
use Rattle.ob_requests.specs.Tables.{number_in, rows_in}
use Rattle.ob_requests.proofs.Written.{ticket_set}
use Rattle.ob_requests.proofs.variables.Variables.set_ticket.Goals as goal

pub returns : goal.returns
returns c =
    ticket_set (number_in c.args.self.now.processes) (rows_in c.args.self.now.handles) _ c.process.inside.0 c.args.process c.process.view_is c.args.variable.now c.args.ticket c.write.ensures
