-- What is kept for the variable of one table is written, and all others stay.
use Rattle.std.proofs.Common.{◌≡◌, ◌∙◌, true, None, MatchOption, inl, inr, sym, ap, subst}
use Rattle.std.specs.Option.{option_copied_mut}
use Rattle.ob_requests.specs.declared.variable.Variable.{Variable}
use Rattle.ob_requests.specs.Rows.{no_row, written}
use Rattle.ob_requests.specs.Tables.{has_variable, numbers_among, row_in, rows_in, table_at}
use Rattle.ob_requests.specs.Variables.{with_number}
use Rattle.ob_requests.proofs.Written.{none_at, number_at, variable_again, variable_written}
use Rattle.ob_requests.proofs.variable_tables.VariableTables.write.Goals as goal

pub returns-in-Some : goal.returns-in-Some
returns-in-Some c =
    let found = sym c.get_mut.ensures.value ∙ ap option_copied_mut c.in-Some.is in
    variable_written no_row c.args.self.now.tables.entries c.args.process c.in-Some.table.now c.write-self.new.table found _
    c.args.variable.now (written (rows_in c.args.self.now c.args.process c.args.variable.now) c.args.write) ((c.get_mut.follows.holds c.write-self.new.table).0)
    (c.write-self.ensures ∙ ap (λ (row : Variable). with_number (row_in c.in-Some.table.now) c.args.variable.now (written row c.args.write))
    (number_at no_row c.args.self.now.tables.entries c.args.process c.in-Some.table.now c.write-self.new.table found c.args.variable.now))

pub returns-in_default : goal.returns-in_default
returns-in_default c =
    let h = c.get_mut.follows.holds-at-none in
    let missing : table_at c.args.self.now.tables.entries c.args.process ≡ None = sym c.get_mut.ensures.value ∙ ap option_copied_mut c.in_default.is in
    elim c.requires.room [
      | inl there ↦ absurd (subst (λ o. MatchOption o ⊥ (λ table. has_variable table c.args.variable.now ≡ true)) missing there)
      | inr same ↦
          ap (λ m. numbers_among no_row m.entries) h
          ∙ variable_again no_row c.args.self.now.tables.entries c.args.process missing c.args.variable.now (written (rows_in c.args.self.now c.args.process c.args.variable.now) c.args.write)
          (ap (λ (row : Variable). written row c.args.write) (none_at no_row c.args.self.now.tables.entries c.args.process missing c.args.variable.now) ∙ same)
    ]
