use Rattle.ob_worker_lines.proofs.Apart.{seal_no_script_line}
use Rattle.ob_worker_lines.proofs.Forms.{seat_line_alike}
use Rattle.ob_worker_lines.proofs.form.seat_lines_have_one_form.Goals as goal

pub returns : goal.returns
returns c = record { one = seat_line_alike; seal = seal_no_script_line }
