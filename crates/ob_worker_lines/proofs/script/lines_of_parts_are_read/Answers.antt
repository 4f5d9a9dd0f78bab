use Rattle.ob_worker_lines.proofs.Forms.{lines_are_read}
use Rattle.ob_worker_lines.proofs.script.lines_of_parts_are_read.Goals as goal

pub returns : goal.returns
returns c = lines_are_read
