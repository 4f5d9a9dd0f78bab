use Rattle.ob_worker_lines.proofs.Alike.{cuts_alike}
use Rattle.ob_worker_lines.proofs.Bad.{bad_alike}
use Rattle.ob_worker_lines.proofs.script.scripts_have_one_cut.Goals as goal

pub returns : goal.returns
returns c = record { cut = cuts_alike; bad = bad_alike }
