-- The last of the entries, and then the others.
use Rattle.ob_tree.specs.Index.{named_by}
use Rattle.ob_tree.proofs.Writing.{items_pushed}
use Rattle.ob_tree.proofs.lines.push_items.Goals as goal

pub returns : goal.returns
returns c =
    items_pushed named_by c.args.indent.now c.args.entries.now c.in-Some.others.now c.in-Some.last.now c.in_ok-item_of.field-0 c.args.items.now.items c.push.new.self.items c.push_middle_items.new.items.items
    c.in-Some.ensures.cases.0 c.in_ok-item_of.ensures c.in_ok-push.ensures.items c.in_ok-push_middle_items.ensures
