use Rattle.ob_lookup.proofs.Kept.{paths_are_shown}
use Rattle.ob_lookup.proofs.paths.paths_are_shown.Goals as goal

pub returns : goal.returns
returns g c = paths_are_shown
