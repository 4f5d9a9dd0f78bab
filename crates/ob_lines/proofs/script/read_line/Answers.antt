use Rattle.ob_lines.proofs.LineForms.{found_has_texts}
use Rattle.ob_lines.proofs.script.read_line.Goals as goal

pub returns-clause-texts : goal.returns-clause-texts
returns-clause-texts c = found_has_texts _ c.form_of.result c.form_of.ensures.found
