-- Where nothing can follow the workers, a line stands in a wrong place.
use Rattle.std.proofs.Common.{Bool, sym, subst, ◌∙◌}
use Rattle.std.proofs.lemmas.Bool.{eqb-false}
use Rattle.ob_lines.specs.Lines.{lines_of}
use Rattle.ob_worker_lines.specs.Parts.{IsMisplaced}
use Rattle.ob_worker_lines.proofs.SoFar.{IsTaken, first_misplaced, later_misplaced}
use Rattle.ob_worker_lines.proofs.script.take_behind.Goals as goal
use Rattle.ob_worker_lines.proofs.script.take_behind.Goals.{in_default-via-in-Some+else-has_workers, in_default-via-in_default}

pub returns-else-is_empty-2-clause-misplaced : goal.returns-else-is_empty-2-clause-misplaced
returns-else-is_empty-2-clause-misplaced c =
    let e = c.take_part-last.ensures in
    let taken : IsTaken _ _ c.take_part-last.result =
    record { whole = e.lines; own = e.seat_lines; stopped = e.stopped; begins = e.first; ends = e.number; bound = e.bound } in
    let P : Bool → Type 0 = λ has. IsMisplaced has (lines_of c.args.rest.now) c.args.number c.take_part-last.result.number in
    subst P (sym c.if-has_workers.true)
    (later_misplaced c.args.rest.now c.in-Some.lines.now c.args.number c.take_part-last.result c.in-Some.ensures.found taken (eqb-false _ 0 (sym c.is_empty-in-Some.ensures ∙ c.if-is_empty-2.false)))

pub returns-in_default-clause-misplaced : goal.returns-in_default-clause-misplaced
returns-in_default-clause-misplaced c =
    first_misplaced _ _ _ (eqb-false _ 0 (sym c.is_empty.ensures ∙ c.if-is_empty.false))
    (λ more e. elim c.in_default.branch [
      | in_default-via-in-Some+else-has_workers w ↦ w.if-has_workers.false
      | in_default-via-in_default w ↦ absurd (w.in_default.ensures.none more e)
    ])
