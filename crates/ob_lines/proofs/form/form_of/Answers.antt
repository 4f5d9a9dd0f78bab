-- A line that is neither idle, nor `stat`, nor a line of a process has no form.
use Rattle.ob_parts.proofs.Cuts.{IfNone-map}
use Rattle.ob_parts.proofs.Readings.{told_apart}
use Rattle.ob_lines.proofs.LineForms.{no_form}
use Rattle.ob_lines.proofs.form.form_of.Goals as goal

pub returns-clause-none : goal.returns-clause-none
returns-clause-none c =
    IfNone-map c.asking_of.result _ _
    (no_form _ c.is_idle.result c.if-is_idle.false c.is_idle.ensures.1 (told_apart _ _ _ _ c.if-eq.false c.eq.ensures c.as_slice.ensures))
    c.asking_of.ensures.none
