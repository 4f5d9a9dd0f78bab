-- The words and numbers stand behind one another.
use Rattle.std.proofs.Common.{append_assoc}
use Rattle.ob_output.proofs.lines.push_counts_line.Goals as goal

pub returns-clause-items : goal.returns-clause-items
returns-clause-items c =
    rw (
      c.push_text-2.ensures.items,
      c.push_count-5.ensures.items,
      c.push_count-4.ensures.items,
      c.push_count-3.ensures.items,
      c.push_count-2.ensures.items,
      c.push_count.ensures.items,
      c.push_text.ensures.items,
      c.push_number.ensures.items,
    ) (simp append_assoc)
