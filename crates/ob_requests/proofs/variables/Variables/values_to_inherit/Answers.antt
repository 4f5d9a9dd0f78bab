-- A copy has its parent's values.
use Rattle.std.proofs.Common.{Bool, ℕ, cond, sym, ap, ◌∙◌}
use Rattle.std.proofs.lemmas.Result.{IfOk-weaker}
use Rattle.ob_requests.specs.Rows.{value_alone}
use Rattle.ob_requests.specs.Tables.{rows_in}
use Rattle.ob_requests.proofs.variables.Variables.values_to_inherit.Goals as goal

pub returns-then-inherit : goal.returns-then-inherit
returns-then-inherit c =
    IfOk-weaker c.copy_of.result _ _
    (λ copy is variable. is variable
    ∙ (ap (λ (k : ℕ). value_alone (rows_in c.args.self.now.handles k variable).value) c.parent.view_is
    ∙ ap (λ (b : Bool). value_alone (cond b (rows_in c.args.self.now.handles c.args.parent variable).value 0)) (sym c.if-inherit.true)))
    c.copy_of.ensures
