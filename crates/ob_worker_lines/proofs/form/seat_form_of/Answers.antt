use Rattle.ob_lines.proofs.LineForms.{form_has_texts}
use Rattle.ob_worker_lines.proofs.form.seat_form_of.Goals as goal

pub returns-clause-texts : goal.returns-clause-texts
returns-clause-texts c = form_has_texts _ _ c.in_ok-form.ensures.found
