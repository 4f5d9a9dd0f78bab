-- The clones have the same rows, and then no tickets.
use Rattle.std.proofs.Common.{sym, ap, ◌∙◌}
use Rattle.ob_requests.specs.declared.variable.Variable.{Variable}
use Rattle.ob_requests.specs.declared.variable.Write.TheVariants.{Ticket}
use Rattle.ob_requests.specs.Rows.{no_row, written}
use Rattle.ob_requests.proofs.Copies.{cloned_tables}
use Rattle.ob_requests.proofs.Tables.{cloned, cloned_bytes}
use Rattle.ob_requests.proofs.variable_tables.VariableTables.without_tickets.Goals as goal

pub returns : goal.returns
returns c = λ process variable.
    c.clear_all_tickets.ensures process variable
    ∙ ap (λ (row : Variable). written row (Ticket 0))
    (cloned_tables no_row _ _ (λ x y same. sym same) (λ x y z. cloned no_row _ _ (λ x y z. cloned_bytes x.items y.items z) (λ x y same. sym same) x y z)
    c.args.self.now.tables.entries c.in_ok-tables.tables.entries c.in_ok-tables.ensures.cases process variable)
