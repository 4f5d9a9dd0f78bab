use Rattle.ob_dirs.proofs.Laws.{found-entries}
use Rattle.ob_dirs.proofs.dir.dir_finds_what_the_state_finds.Goals as goal

pub returns : goal.returns
returns g c = found-entries
