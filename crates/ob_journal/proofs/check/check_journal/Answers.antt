-- There is no header, or the lines after it are checked.
use Rattle.std.proofs.Common.{◌∙◌, sym, subst}
use Rattle.ob_journal.specs.Journal.{IsFault}
use Rattle.ob_journal.specs.Played.{IsFaultBehind}
use Rattle.ob_lines.specs.Lines.{lines_of}
use Rattle.ob_journal.proofs.SoFar.{err_weaker, fault_behind, no_header_there, no_line_there}
use Rattle.ob_journal.proofs.check.check_journal.Goals as goal

pub returns-in_default-clause-fault : goal.returns-in_default-clause-fault
returns-in_default-clause-fault c = subst (IsFault c.args.text.now) (sym c.refused.ensures) (no_line_there c.args.text.now c.in_default.ensures.none)

pub returns-in-Ok-Some-clause-fault : goal.returns-in-Ok-Some-clause-fault
returns-in-Ok-Some-clause-fault c =
    err_weaker c.check_lines.result (IsFaultBehind c.in-Ok-Some.header (lines_of c.in-Some.lines.now)) (IsFault c.args.text.now)
    (fault_behind c.args.text.now c.in-Some.header.now c.in-Some.lines.now c.in-Some.ensures.found c.in-Ok-Some.header (sym c.in-Ok-Some.ensures ∙ c.in-Ok-Some.field-0-is)) c.check_lines.ensures.fault

pub returns-in-Ok-None-clause-fault : goal.returns-in-Ok-None-clause-fault
returns-in-Ok-None-clause-fault c =
    subst (IsFault c.args.text.now) (sym c.refused-in-Ok-None.ensures)
    (no_header_there c.args.text.now c.in-Some.header.now c.in-Some.lines.now c.in-Some.ensures.found (sym c.in-Ok-None.ensures ∙ c.in-Ok-None.field-0-is))
