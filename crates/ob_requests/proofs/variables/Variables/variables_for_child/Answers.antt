-- The values are those that are inherited, and the tickets the child's own.
use Rattle.std.proofs.Common.{ℕ, ap, ◌∙◌}
use Rattle.ob_requests.specs.declared.variable.Variable.{Variable}
use Rattle.ob_requests.specs.Tables.{rows_in}
use Rattle.ob_requests.proofs.variables.Variables.variables_for_child.Goals as goal

pub add_tickets-requires : goal.add_tickets-requires
add_tickets-requires c = record { none = λ variable. ap (λ (r : Variable). r.ticket) (c.in_ok-table.ensures variable) }

pub returns-clause-values : goal.returns-clause-values
returns-clause-values c = λ i variable. (ap (λ (r : Variable). r.value) (c.in_ok-add_tickets.ensures variable) ∙ ap (λ (r : Variable). r.value) (c.in_ok-table.ensures variable)) i

pub returns-clause-begins : goal.returns-clause-begins
returns-clause-begins c = λ variable. (
  ap (λ (r : Variable). r.context) (c.in_ok-add_tickets.ensures variable) ∙ ap (λ (r : Variable). r.context) (c.in_ok-table.ensures variable),
  ap (λ (r : Variable). r.ticket) (c.in_ok-add_tickets.ensures variable) ∙ ap (λ (k : ℕ). (rows_in c.args.self.now.handles k variable).ticket) c.child.view_is,
)
