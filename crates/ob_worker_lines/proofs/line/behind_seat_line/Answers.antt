-- A line that has a form is a line of a seat, and one that has none is not.
use Rattle.std.proofs.Common.{sym, subst}
use Rattle.ob_worker_lines.specs.Cuts.{IsStopped}
use Rattle.ob_worker_lines.proofs.Forms.{form_of_seat}
use Rattle.ob_worker_lines.proofs.line.behind_seat_line.Goals as goal

pub returns-in-None-clause-none : goal.returns-in-None-clause-none
returns-in-None-clause-none c =
    subst IsStopped (sym c.in_ok-line.ensures.found)
    (λ is. let form = form_of_seat _ is in c.in-None.ensures.none form.0 form.1)
