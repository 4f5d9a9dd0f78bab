-- A handle goes from both maps.
use Rattle.std.proofs.Common.{◌∙◌, sym}
use Rattle.ob_handles.proofs.Tables.{nothing_found, something_found, nothing_taken, something_taken, taken_indexed}
use Rattle.ob_handles.proofs.open_table.OpenTableHandleTable.take.Goals as goal

pub returns-in_err-order-clause-there : goal.returns-in_err-order-clause-there
returns-in_err-order-clause-there c =
    c.from_residual.ensures
    ∙ nothing_found c.self.inside.by_order.entries c.self.inside.by_value.entries c.self.invariant c.args.self.now c.self.view_is c.value.inside.0 c.args.value c.value.view_is
    (sym c.in_err-order.ensures.value)

pub returns-in_err-order-clause-others : goal.returns-in_err-order-clause-others
returns-in_err-order-clause-others c =
    nothing_taken c.self.inside.by_order.entries c.self.inside.by_value.entries c.self.invariant c.args.self.now c.self.view_is c.value.inside.0 c.args.value c.value.view_is
    (sym c.in_err-order.ensures.value)

pub invariant_of-self-2 : goal.invariant_of-self-2
invariant_of-self-2 c =
    taken_indexed c.self.inside.by_order.entries c.self.inside.by_value.entries c.self.invariant c.remove-2.new.self.entries c.remove.new.self.entries c.value.inside.0 c.in_ok-order.order
    c.remove-2.result (sym c.in_ok-order.ensures.value) c.remove-2.ensures.value c.remove-2.ensures.ordered c.remove.ensures.ordered c.remove-2.ensures.updates.0 c.in_ok-order.ensures.updates.0
    c.remove-2.ensures.len c.in_ok-order.ensures.len

pub returns-clause-there : goal.returns-clause-there
returns-clause-there c =
    something_found c.self.inside.by_order.entries c.self.inside.by_value.entries c.self.invariant c.args.self.now c.self.view_is c.value.inside.0 c.args.value c.value.view_is
    c.in_ok-order.order c.remove-2.result (sym c.in_ok-order.ensures.value) c.remove-2.ensures.value

pub returns-clause-others : goal.returns-clause-others
returns-clause-others c =
    something_taken c.self.inside.by_order.entries c.self.inside.by_value.entries c.self.invariant c.args.self.now c.self.view_is c.value.inside.0 c.args.value c.value.view_is
    c.remove-2.new.self.entries c.in_ok-order.order (sym c.in_ok-order.ensures.value) c.remove-2.ensures.entries
