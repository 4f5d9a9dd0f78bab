use Rattle.ob_lines.proofs.LineForms.{line_alike}
use Rattle.ob_lines.proofs.form.lines_have_one_form.Goals as goal

pub returns : goal.returns
returns c = line_alike
