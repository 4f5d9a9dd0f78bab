-- Each item says its part.
use Rattle.std.proofs.Common.{sym, ◌∙◌}
use Rattle.ob_reader.specs.Reading.{listed_in}
use Rattle.ob_reader.proofs.Each.{said_more, said_nowhere}
use Rattle.ob_reader.proofs.replies.read_entries.Goals as goal

pub returns-in_default : goal.returns-in_default
returns-in_default c = said_nowhere listed_in c.args.items.now c.loop-item.item-index c.item-item.result c.loop-item-test.true c.item-item.is (sym c.in_default.is ∙ c.in_ok-listed.ensures)

pub loop-item-preserved : goal.loop-item-preserved
loop-item-preserved c =
    said_more listed_in c.args.items.now c.loop-item.item-index c.item-item.result c.loop-item.entries.items c.push.new.self.items c.in-Some.listed c.loop-item-test.true c.item-item.is c.loop-item.invariant (sym c.in-Some.is ∙ c.in_ok-listed.ensures) c.in_ok-push.ensures.items
