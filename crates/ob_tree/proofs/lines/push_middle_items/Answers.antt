-- One item more.
use Rattle.std.proofs.Common.{◌-◌, [], length, get_or, refl}
use Rattle.ob_tree.specs.declared.entries.Entry.{Entry}
use Rattle.ob_tree.specs.Tree.{middle_item}
use Rattle.ob_tree.proofs.Writing.{items_back}
use Rattle.ob_tree.proofs.lines.push_middle_items.Goals as goal

pub loop-step-preserved : goal.loop-step-preserved
loop-step-preserved c =
    let none : Entry = record { directory = 0; name = record { ref_ptr = (0, 0); now = [] }; object = 0 } in
    items_back (λ (e : Entry). middle_item c.args.indent.now e.object) c.args.entries.now (get_or c.args.entries.now (length c.args.entries.now - 1 - c.loop-step.step) none) none c.in_ok-item_of.field-0 c.loop-step.step
    c.loop-step.items.items c.push.new.self.items _ c.loop-step-test.true refl c.in_ok-push.ensures.items c.in_ok-item_of.ensures c.loop-step.invariant
