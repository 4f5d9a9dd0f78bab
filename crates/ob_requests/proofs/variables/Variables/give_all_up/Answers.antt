-- The process has no variables and no contexts; all others stay.
use Rattle.std.proofs.Common.{ℕ, ap, refl}
use Rattle.ob_requests.specs.Tables.{number_in, rows_in}
use Rattle.ob_requests.proofs.Written.{variables_set}
use Rattle.ob_requests.proofs.variables.Variables.give_all_up.Goals as goal

pub returns : goal.returns
returns c =
    variables_set (number_in c.args.self.now.processes) (rows_in c.args.self.now.handles) _ c.process.inside.0 c.args.process c.process.view_is _
    (λ w. (refl, ap (λ (k : ℕ). (rows_in c.args.self.now.handles k w).ticket) c.process.view_is)) c.give_all_up.ensures
