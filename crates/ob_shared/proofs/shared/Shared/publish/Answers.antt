-- The history is the one under the lock.
use Rattle.ob_shared.proofs.Onward.{published_there}
use Rattle.ob_shared.proofs.shared.Shared.publish.Goals as goal

pub returns-clause-published : goal.returns-clause-published
returns-clause-published g c =
    published_there g.T.TypeSet.procedures c.deref_mut.result.now.history c.args.pass c.publish-published.result g.P.Publishing.known c.publish-published.ensures.published
