-- Both copies have the opening rows, and nothing is pending.
use Rattle.std.proofs.Common.{◌∙◌, drop}
use Rattle.ob_published.proofs.Steps.{showing_begins}
use Rattle.ob_published.proofs.showing.Showing.open.Goals as goal

pub invariant_of-result : goal.invariant_of-result
invariant_of-result g c =
    showing_begins g.J.Naming.book g.J.Naming.opening g.J.Naming.leads c.named-book.result.1 c.again.result c.named-book.ensures (c.again.ensures ∙ c.named-book.ensures)
    c.in_ok-writer.writer.desk.shown.value c.shown_at-first.result c.in_ok-writer.ensures.0 c.shown_at-first.ensures.rule c.shown_at-first.ensures.none c.new-2.result.items
    (drop c.in_ok-writer.writer.behind c.in_ok-writer.writer.log.items) c.new-2.ensures.items c.in_ok-writer.ensures.1
