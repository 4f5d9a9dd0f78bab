-- The state is that of a run, so its names are in order.
use Rattle.ob_shared.proofs.Keeping.{ordered}
use Rattle.ob_view.proofs.opened.rows_of.Goals as goal

pub follow-requires-clause-order : goal.follow-requires-clause-order
follow-requires-clause-order g c κs within = ordered g.T.TypeSet.procedures c.args.locked.now.first _ c.args.locked.now.state c.core.result.now c.is_kept.ensures.run c.core.ensures
