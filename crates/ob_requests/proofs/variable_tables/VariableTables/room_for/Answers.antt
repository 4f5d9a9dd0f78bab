-- What is kept for the variables of one table stays, and all others stay.
use Rattle.std.proofs.Common.{◌≡◌, sym, ap, subst, ◌∙◌}
use Rattle.std.specs.Option.{option_copied_mut}
use Rattle.ob_requests.specs.declared.variable.Variable.{Variable}
use Rattle.ob_requests.specs.Rows.{no_row}
use Rattle.ob_requests.specs.Tables.{number_or}
use Rattle.ob_requests.proofs.Written.{variables_same}
use Rattle.ob_requests.proofs.variable_tables.VariableTables.room_for.Goals as goal

pub returns-in_err-self-clause-same : goal.returns-in_err-self-clause-same
returns-in_err-self-clause-same c =
    variables_same no_row c.room_for_variables.new.self.tables.entries c.args.process c.in-Some.table.now c.room_for.new.table
    (sym c.get_mut.ensures.value ∙ ap option_copied_mut c.in-Some.is) _ ((c.get_mut.follows.holds c.room_for.new.table).0) (subst (λ (none : Variable). number_or none c.room_for.new.table ≡ number_or none c.in-Some.table.now) c.no_row.ensures c.room_for.ensures.same)
    ∙ c.in_ok-room_for_variables.ensures.same

pub returns-clause-same : goal.returns-clause-same
returns-clause-same c =
    variables_same no_row c.room_for_variables.new.self.tables.entries c.args.process c.in-Some.table.now c.room_for.new.table
    (sym c.get_mut.ensures.value ∙ ap option_copied_mut c.in-Some.is) _ ((c.get_mut.follows.holds c.room_for.new.table).0) (subst (λ (none : Variable). number_or none c.room_for.new.table ≡ number_or none c.in-Some.table.now) c.no_row.ensures c.room_for.ensures.same)
    ∙ c.in_ok-room_for_variables.ensures.same
