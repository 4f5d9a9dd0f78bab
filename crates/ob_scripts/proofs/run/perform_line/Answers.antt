-- A line has the form that is found.
use Rattle.ob_lines.specs.Script.{found_seen}
use Rattle.ob_lines.proofs.LineForms.{found_has_texts, has_form}
use Rattle.ob_scripts.proofs.run.perform_line.Goals as goal

pub perform-requires : goal.perform-requires
perform-requires c = record { kept = c.requires; texts = found_has_texts _ c.form_of.result c.form_of.ensures.found }

pub returns-clause-done : goal.returns-clause-done
returns-clause-done c = (found_seen c.form_of.result, has_form c.args.line.now c.form_of.result c.form_of.ensures.found c.form_of.ensures.none, c.perform.ensures.done)
