-- The text begins at a directory.
use Rattle.ob_lookup.proofs.Starts.{start_there}
use Rattle.ob_lookup.proofs.cached.look_again_cached.Goals as goal

pub look_from_cached-requires-clause-directory : goal.look_from_cached-requires-clause-directory
look_from_cached-requires-clause-directory g c κs within = start_there c.args.store.now c.args.view.now c.requires.closed c.requires.view 0 c.args.mode.create c.args.text c.in-Some.start (c.in-Some.ensures 0)
