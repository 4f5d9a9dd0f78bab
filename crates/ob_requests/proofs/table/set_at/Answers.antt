-- The slot's variable, and no other, has the number.
use Rattle.std.proofs.Common.{◌∙◌, ap, refl, sym, is_some}
use Rattle.std.proofs.lemmas.Bool.{true≢false}
use Rattle.std.specs.Option.{option_copied_mut}
use Rattle.indexmap.specs.IndexMap.{with_value_at}
use Rattle.ob_requests.proofs.Tables.{set_values, value_there}
use Rattle.ob_requests.proofs.table.set_at.Goals as goal

pub returns-in-Some : goal.returns-in-Some
returns-in-Some g c =
    λ none variable at. set_values none c.args.table.now (with_value_at c.args.table.now c.args.slot c.args.number) c.args.slot variable c.args.number refl c.get_index_mut.ensures.unique at

pub returns-in_default : goal.returns-in_default
returns-in_default g c =
    λ none variable at. absurd (true≢false (sym (value_there c.args.table.now.entries c.args.slot variable at) ∙ ap is_some (sym c.get_index_mut.ensures.value ∙ ap option_copied_mut c.in_default.is)))
