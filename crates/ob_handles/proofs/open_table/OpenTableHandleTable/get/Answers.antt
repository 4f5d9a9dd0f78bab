-- What is found by a value is what stands under the order that the value leads to.
use Rattle.std.proofs.Common.{◌∙◌, sym}
use Rattle.ob_handles.proofs.Tables.{nothing_found, something_found}
use Rattle.ob_handles.proofs.open_table.OpenTableHandleTable.get.Goals as goal

pub returns-in_err-order : goal.returns-in_err-order
returns-in_err-order c =
    c.from_residual.ensures
    ∙ nothing_found c.self.inside.by_order.entries c.self.inside.by_value.entries c.self.invariant c.args.self.now c.self.view_is c.value.inside.0 c.args.value c.value.view_is
    (sym c.in_err-order.ensures.value)

pub returns : goal.returns
returns c =
    something_found c.self.inside.by_order.entries c.self.inside.by_value.entries c.self.invariant c.args.self.now c.self.view_is c.value.inside.0 c.args.value c.value.view_is
    c.in_ok-order.order.now c.copied.result (sym c.in_ok-order.ensures.value) (c.copied.ensures ∙ c.get-2.ensures.value)
