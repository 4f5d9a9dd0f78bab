-- The pass is a stranger's, nothing is published here, or memory ran out.
use Rattle.ob_shared.proofs.Onward.{memory_unpublished, never_unpublished, stranger_unpublished}
use Rattle.ob_shared.proofs.guarded.Guarded.publish.Goals.{then-not-is_known-via-then-not-is_known, then-not-is_known-via-else-not-is_known+then-not-is_publishing}
use Rattle.ob_shared.proofs.guarded.Guarded.publish.Goals as goal

pub returns-then-not-is_known-clause-fault : goal.returns-then-not-is_known-clause-fault
returns-then-not-is_known-clause-fault g c =
    elim c.then-not-is_known.branch [
      | then-not-is_known-via-then-not-is_known w ↦ stranger_unpublished g.T.TypeSet.procedures c.self.inside.locked c.is_kept.ensures.run c.journal.result.now.journal c.journal.ensures c.args.pass.now g.P.Publishing.publishes c.is_known.result c.is_known.ensures w.if-not-is_known.true
      | then-not-is_known-via-else-not-is_known+then-not-is_publishing w ↦ never_unpublished g.T.TypeSet.procedures c.self.inside.locked c.is_kept.ensures.run c.journal.result.now.journal c.journal.ensures c.args.pass.now g.P.Publishing.publishes c.is_known.result c.is_known.ensures (w.is_publishing.ensures.no w.if-not-is_publishing.true)
    ]

pub returns-in-Err-clause-fault : goal.returns-in-Err-clause-fault
returns-in-Err-clause-fault g c =
    memory_unpublished g.T.TypeSet.procedures c.self.inside.locked c.is_kept.ensures.run c.journal.result.now.journal c.journal.ensures c.args.pass.now g.P.Publishing.publishes c.is_known.result c.is_known.ensures (c.is_publishing.ensures.yes c.if-not-is_publishing.false) c.if-not-is_known.false
