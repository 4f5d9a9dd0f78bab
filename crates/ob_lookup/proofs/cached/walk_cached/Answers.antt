-- The rest of the walk stops where the whole text does.
use Rattle.ob_lookup.specs.Walk.{stop_of}
use Rattle.ob_lookup.proofs.Compose.{stop_more}
use Rattle.ob_lookup.proofs.cached.walk_cached.Goals as goal

pub returns-clause-stop : goal.returns-clause-stop
returns-clause-stop g c = λ s p shows of.
    stop_more s c.args.fold p c.args.start c.onward-from.result c.args.create (c.onward-from.ensures.leads s p shows of) (stop_of c.walk.result) (c.walk.ensures.stop s p shows of)
