-- The slot's variable, and no other, is written.
use Rattle.std.proofs.Common.{◌∙◌, ap, refl, sym, is_some}
use Rattle.std.proofs.lemmas.Bool.{true≢false}
use Rattle.std.specs.Option.{option_copied_mut}
use Rattle.indexmap.specs.IndexMap.{with_value_at}
use Rattle.ob_requests.specs.declared.variable.Variable.{Variable}
use Rattle.ob_requests.specs.Rows.{no_row, written}
use Rattle.ob_requests.specs.Tables.{row_in}
use Rattle.ob_requests.specs.Variables.{with_number}
use Rattle.ob_requests.proofs.Tables.{set_values, kept_there, value_there}
use Rattle.ob_requests.proofs.table.write_at.Goals as goal

pub returns-in-Some : goal.returns-in-Some
returns-in-Some c =
    λ variable at. set_values no_row c.args.table.now (with_value_at c.args.table.now c.args.slot c.written.result) c.args.slot variable c.written.result refl c.get_index_mut.ensures.unique at
    ∙ ap (λ (row : Variable). with_number (row_in c.args.table.now) variable row)
    (c.written.ensures ∙ ap (λ (row : Variable). written row c.args.write) (sym (kept_there no_row c.args.table.now.entries c.args.slot variable c.in-Some.own.now c.get_index_mut.ensures.unique at
    (sym c.get_index_mut.ensures.value ∙ ap option_copied_mut c.in-Some.is))))

pub returns-in_default : goal.returns-in_default
returns-in_default c =
    λ variable at. absurd (true≢false (sym (value_there c.args.table.now.entries c.args.slot variable at) ∙ ap is_some (sym c.get_index_mut.ensures.value ∙ ap option_copied_mut c.in_default.is)))
