-- The open of a parse that it waits for is given up.
use Rattle.ob_runner.proofs.Brought.{is_awaited}
use Rattle.ob_runner.proofs.opens.abandon_open.Goals as goal

pub returns : goal.returns
returns g c = c.abandon.ensures.step (c.abandon.ensures.exact.1 (is_awaited g.T.TypeSet.procedures c.own_face.ensures c.args.core.now _ c.requires))
