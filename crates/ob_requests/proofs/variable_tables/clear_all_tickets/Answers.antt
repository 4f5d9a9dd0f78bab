-- The closure keeps each table, without tickets.
use Rattle.std.proofs.Common.{refl, rules}
use Rattle.ob_requests.specs.declared.variable.Variable.{Variable}
use Rattle.ob_requests.specs.declared.variable.Write.TheVariants.{Ticket}
use Rattle.ob_requests.specs.Rows.{no_row, written}
use Rattle.ob_requests.proofs.Copies.{all_written}
use Rattle.ob_requests.proofs.variable_tables.clear_all_tickets.Goals as goal

pub returns : goal.returns
returns c =
    all_written no_row _ (λ (row : Variable). written row (Ticket 0)) refl
    (λ f k v b u f' called. (search rules, λ w. search rules)) _ c.args.tables.now.entries c.retain.new.self.entries c.retain.ensures.filtered
