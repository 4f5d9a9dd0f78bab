-- The variable is found in its slot, or nothing is written that it has not.
use Rattle.std.proofs.Common.{inl, inr, ◌∙◌, ap, sym}
use Rattle.std.proofs.lemmas.Bool.{true≢false}
use Rattle.ob_requests.specs.declared.variable.Variable.{Variable}
use Rattle.ob_requests.specs.Rows.{no_row, written}
use Rattle.ob_requests.specs.Tables.{row_in}
use Rattle.ob_requests.specs.Variables.{with_number}
use Rattle.ob_requests.proofs.Tables.{none_found, none_given_up}
use Rattle.ob_requests.proofs.table.write.Goals as goal

pub returns-in-Some : goal.returns-in-Some
returns-in-Some c = c.write_at.ensures c.args.variable.now c.in-Some.ensures

pub returns-in-None : goal.returns-in-None
returns-in-None c = elim c.requires.room [
  | inl there ↦ absurd (true≢false (sym there ∙ c.in-None.ensures))
  | inr same ↦
      none_given_up no_row c.args.table.now.entries c.args.variable.now c.in-None.ensures
      ∙ ap (λ (row : Variable). with_number (row_in c.args.table.now) c.args.variable.now row)
      (sym (ap (λ (row : Variable). written row c.args.write) (none_found no_row _ c.in-None.ensures) ∙ same))
]
