-- The variable has room, and then its ticket.
use Rattle.std.proofs.Common.{◌≡◌, List, ℕ, ap, subst, ◌∙◌}
use Rattle.ob_requests.specs.declared.variable.Variable.{Variable}
use Rattle.ob_requests.specs.declared.variable.Write.TheVariants.{Ticket}
use Rattle.ob_requests.specs.Rows.{written}
use Rattle.ob_requests.specs.Tables.{number_or, row_in}
use Rattle.ob_requests.specs.Variables.{with_number}
use Rattle.ob_requests.proofs.table.add_ticket.Goals as goal

pub returns : goal.returns
returns c =
    let same : row_in c.room_for.new.table ≡ row_in c.args.table.now =
    subst (λ (none : Variable). number_or none c.room_for.new.table ≡ number_or none c.args.table.now) c.no_row.ensures c.in_ok-slot.ensures.same in
    c.write.ensures ∙ ap (λ (rows : List ℕ → Variable). with_number rows c.args.variable.now (written (rows c.args.variable.now) (Ticket c.args.ticket))) same
