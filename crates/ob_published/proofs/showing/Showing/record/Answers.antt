-- The publication is the last, and its changes are left.
use Rattle.std.proofs.Common.{drop}
use Rattle.ob_published.proofs.Steps.{showing_recorded}
use Rattle.ob_published.proofs.showing.Showing.record.Goals as goal

pub invariant_of-self-2 : goal.invariant_of-self-2
invariant_of-self-2 g c =
    showing_recorded g.J.Naming.book g.J.Naming.opening g.J.Naming.leads c.self.inside.start c.self.inside.last c.self.inside.left.items c.self.inside.behind
    c.self.inside.writer.desk.shown.value (drop c.self.inside.writer.behind c.self.inside.writer.log.items) c.self.invariant c.if-self.false c.args.publication c.add.new.self c.if-not-add.ensures
