-- The stamps of the rows are those of the table's rows by their stamps.
use Rattle.std.proofs.Common.{◌≡◌, All, Contains, subst}
use Rattle.std.proofs.lemmas.Result.{IfOk-weaker}
use Rattle.ob_model.specs.declared.state.Row.{Row}
use Rattle.ob_rows.proofs.table.RowTable.stamps.Goals as goal

pub returns : goal.returns
returns c = IfOk-weaker c.stamps.result _ _ (λ stamps are. subst (All (λ (row : Row). Contains stamps.items row.stamp)) c.self.view_is are) c.stamps.ensures
