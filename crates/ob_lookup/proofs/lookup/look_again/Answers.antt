-- The text begins at a directory.
use Rattle.ob_lookup.proofs.Starts.{start_there}
use Rattle.ob_lookup.proofs.lookup.look_again.Goals as goal

pub look_from-requires-clause-directory : goal.look_from-requires-clause-directory
look_from-requires-clause-directory g c κs within = start_there c.args.store.now c.args.view.now c.requires.closed c.requires.view 0 c.args.mode.create c.args.text c.in-Some.start (c.in-Some.ensures 0)
