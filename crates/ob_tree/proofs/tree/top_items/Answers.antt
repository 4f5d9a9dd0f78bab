-- One item more.
use Rattle.std.proofs.Common.{◌-◌, ◌++◌, ◌∷◌, [], length, get_or, refl, ap, ◌∙◌}
use Rattle.ob_tree.specs.declared.lines.Item.{Item}
use Rattle.ob_tree.specs.Tree.{top_item}
use Rattle.ob_tree.proofs.Writing.{tops_back}
use Rattle.ob_tree.proofs.tree.top_items.Goals as goal

pub loop-step-preserved : goal.loop-step-preserved
loop-step-preserved c =
    tops_back top_item c.args.ids.now (get_or c.args.ids.now (length c.args.ids.now - 1 - c.loop-step.step) 0) 0 c.loop-step.step c.loop-step.items.items c.push.new.self.items
    c.loop-step-test.true refl (c.in_ok-push.ensures.items ∙ ap (λ (item : Item). c.loop-step.items.items ++ item ∷ []) c.top_item.ensures) c.loop-step.invariant
