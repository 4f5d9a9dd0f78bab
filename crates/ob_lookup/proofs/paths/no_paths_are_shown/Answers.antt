use Rattle.ob_lookup.proofs.Kept.{none_are_paths}
use Rattle.ob_lookup.proofs.paths.no_paths_are_shown.Goals as goal

pub returns : goal.returns
returns g c = none_are_paths
