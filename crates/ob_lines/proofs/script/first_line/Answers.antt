-- A line ends at the first LF, or at the end.
use Rattle.std.proofs.Common.{sym, ◌∙◌, ap}
use Rattle.std.proofs.lemmas.Bool.{eqb-false}
use Rattle.ob_lines.specs.Lines.{lines_of}
use Rattle.ob_lines.proofs.Lined.{lines_of-line, lines_of-whole}
use Rattle.ob_lines.proofs.script.first_line.Goals as goal

pub returns-in-Some-clause-found : goal.returns-in-Some-clause-found
returns-in-Some-clause-found c = ap lines_of c.in-Some.ensures.found.0 ∙ lines_of-line _ _ c.in-Some.ensures.found.1

pub returns-in-None-clause-found : goal.returns-in-None-clause-found
returns-in-None-clause-found c =
    lines_of-whole _ (eqb-false _ _ (sym c.is_empty.ensures ∙ c.if-is_empty.false)) c.in-None.ensures.none
