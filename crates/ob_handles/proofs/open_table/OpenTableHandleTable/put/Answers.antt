-- A handle comes last in the one map and has a place in the other, or in neither.
use Rattle.std.proofs.Common.{◌∙◌, ℕ, List, ap, sym, map, subst}
use Rattle.ob_model.specs.declared.state.Held.{Held}
use Rattle.ob_handles.specs.Indexed.{IsIndexed}
use Rattle.ob_handles.proofs.Tables.{newest_inside, put_last, put_back, put_indexed_at, unused_inside}
use Rattle.ob_handles.proofs.open_table.OpenTableHandleTable.put.Goals as goal

pub invariant_of-self-in-Err : goal.invariant_of-self-in-Err
invariant_of-self-in-Err c =
    let inside = c.self.inside.by_order.entries in
    let newest = newest_inside inside c.self.inside.by_value.entries c.self.invariant c.args.self.now c.args.held.order c.self.view_is c.requires.newest in
    let back = put_back inside c.insert.new.self.entries c.remove.new.self.entries c.args.held.order c.args.held newest c.in_ok-insert.ensures.ordered c.in_ok-insert.ensures.entries c.remove.ensures.entries in
    subst (λ (es : List (ℕ × Held)). IsIndexed es c.insert-2.new.self.entries) (sym back) (subst (IsIndexed inside) (sym c.in-Err.ensures.err) c.self.invariant)

pub returns-in-Err-clause-unchanged : goal.returns-in-Err-clause-unchanged
returns-in-Err-clause-unchanged c =
    let inside = c.self.inside.by_order.entries in
    let newest = newest_inside inside c.self.inside.by_value.entries c.self.invariant c.args.self.now c.args.held.order c.self.view_is c.requires.newest in
    ap (map (λ e. e.1)) (put_back inside c.insert.new.self.entries c.remove.new.self.entries c.args.held.order c.args.held newest c.in_ok-insert.ensures.ordered c.in_ok-insert.ensures.entries c.remove.ensures.entries)
    ∙ c.self.view_is

pub invariant_of-self-in_default : goal.invariant_of-self-in_default
invariant_of-self-in_default c =
    let inside = c.self.inside.by_order.entries in
    let index = c.self.inside.by_value.entries in
    let newest = newest_inside inside index c.self.invariant c.args.self.now c.args.held.order c.self.view_is c.requires.newest in
    let unused = unused_inside inside index c.self.invariant c.args.self.now c.args.held.value c.self.view_is c.requires.unused.1 in
    put_indexed_at inside index c.self.invariant c.insert.new.self.entries c.insert-2.new.self.entries c.args.held c.value.inside.0 c.value.view_is c.requires.unused.0 unused newest
    c.in_ok-insert.ensures.ordered c.in_default.ensures.ordered c.in_ok-insert.ensures.updates.0 c.in_default.ensures.updates.0 c.in_ok-insert.ensures.entries
    c.in_default.field-0 c.in_default.ensures.old c.in_default.ensures.len

pub returns-clause-last : goal.returns-clause-last
returns-clause-last c =
    let inside = c.self.inside.by_order.entries in
    let newest = newest_inside inside c.self.inside.by_value.entries c.self.invariant c.args.self.now c.args.held.order c.self.view_is c.requires.newest in
    put_last c.insert.new.self.entries inside c.args.self.now c.args.held.order c.args.held c.in_ok-insert.ensures.entries c.self.view_is newest
