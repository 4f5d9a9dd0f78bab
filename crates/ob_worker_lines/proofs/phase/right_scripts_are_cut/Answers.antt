use Rattle.ob_worker_lines.proofs.Righted.{rights_cut}
use Rattle.ob_worker_lines.proofs.phase.right_scripts_are_cut.Goals as goal

pub returns : goal.returns
returns c = rights_cut
