-- Each item says its part.
use Rattle.ob_reader.specs.Reading.{u64_in}
use Rattle.ob_reader.proofs.Each.{said_more, said_nowhere}
use Rattle.ob_reader.proofs.replies.read_numbers.Goals as goal

pub returns-in_default : goal.returns-in_default
returns-in_default c = said_nowhere u64_in c.args.items.now c.loop-item.item-index c.item-item.result c.loop-item-test.true c.item-item.is c.in_default.ensures

pub loop-item-preserved : goal.loop-item-preserved
loop-item-preserved c =
    said_more u64_in c.args.items.now c.loop-item.item-index c.item-item.result c.loop-item.numbers.items c.push.new.self.items c.in-Some.number c.loop-item-test.true c.item-item.is c.loop-item.invariant c.in-Some.ensures c.in_ok-push.ensures.items
