-- At the end the list has the values of all.
use Rattle.ob_entries.specs.Lines.{listed_value}
use Rattle.ob_entries.proofs.Values.{all_listed}
use Rattle.ob_entries.proofs.replies.make_entries.Goals as goal

pub returns : goal.returns
returns c = all_listed listed_value c.args.entries.now c.loop-entry.list.items c.loop-entry.entry-index c.loop-entry-test.false c.loop-entry.invariant
