-- Bytes that are neither `exit` nor a verb with operands are no request.
use Rattle.ob_parts.proofs.Cuts.{IfNone-map}
use Rattle.ob_parts.proofs.Readings.{told_apart}
use Rattle.ob_lines.proofs.LineForms.{no_exit}
use Rattle.ob_lines.proofs.request.request_of.Goals as goal

pub returns-clause-none : goal.returns-clause-none
returns-clause-none c =
    IfNone-map c.verb_and_operands_of.result _ _ (no_exit _ (told_apart _ _ _ _ c.if-eq.false c.eq.ensures c.as_slice.ensures)) c.verb_and_operands_of.ensures.none
