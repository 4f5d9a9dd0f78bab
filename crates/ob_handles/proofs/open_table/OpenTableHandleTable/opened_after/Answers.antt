-- What comes first in the range above an order was opened first after it.
use Rattle.std.proofs.Common.{◌∙◌, ap, sym, option_map, slice_get}
use Rattle.ob_handles.proofs.Tables.{opened_after}
use Rattle.ob_handles.proofs.open_table.OpenTableHandleTable.opened_after.Goals as goal

pub returns-in_err-held : goal.returns-in_err-held
returns-in_err-held c =
    c.from_residual.ensures
    ∙ ap (λ es. option_map (λ e. e.1) (slice_get es 0)) (sym c.in_err-held.ensures.steps.0)
    ∙ opened_after c.self.inside.by_order.entries c.self.inside.by_value.entries c.self.invariant c.args.self.now c.self.view_is c.args.order c.range.result (c.range.ensures.between tt)

pub returns : goal.returns
returns c =
    ap (λ es. option_map (λ e. e.1) (slice_get es 0)) (sym c.in_ok-held.ensures.steps)
    ∙ opened_after c.self.inside.by_order.entries c.self.inside.by_value.entries c.self.invariant c.args.self.now c.self.view_is c.args.order c.range.result (c.range.ensures.between tt)
