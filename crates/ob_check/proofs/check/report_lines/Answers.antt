-- Each line is reported, or is right, behind those before it.
use Rattle.std.proofs.Common.{arith}
use Rattle.ob_output.proofs.Writers.{at_err}
use Rattle.ob_check.proofs.Reported.{so_far_part, so_far_right, so_far_wrong}
use Rattle.ob_check.proofs.check.report_lines.Goals as goal

pub returns-in_err-report-in-Err-clause-part : goal.returns-in_err-report-in-Err-clause-part
returns-in_err-report-in-Err-clause-part g c =
    at_err c.from_residual.result _
    (so_far_part (g.W.Write.contents c.args.writer.now) (g.W.Write.contents c.loop-line.writer) (g.W.Write.contents c.report.new.writer)
    c.loop-line.block.items c.args.script.now c.loop-line.rest.now c.in-Some.behind.now c.in-Some.line.now c.loop-line.number c.loop-line.phase c.in-Err.misfit c.loop-line.checked
    c.loop-line.invariant.0 c.in-Some.ensures.found c.in-Err.ensures.wrong c.in_err-report-in-Err.ensures.front)

pub loop-line-preserved-in-Ok : goal.loop-line-preserved-in-Ok
loop-line-preserved-in-Ok g c = (
  so_far_right (g.W.Write.contents c.args.writer.now) (g.W.Write.contents c.loop-line.writer)
      c.loop-line.block.items c.args.script.now c.loop-line.rest.now c.in-Some.behind.now c.in-Some.line.now c.loop-line.number c.loop-line.phase c.in-Ok.next c.loop-line.checked
      c.loop-line.invariant.0 c.in-Some.ensures.found c.in-Ok.ensures.right,
  omega (arith, c.loop-line.invariant.1, c.in-Some.ensures.shorter),
  c.loop-line.invariant.2,
  c.in-Ok.ensures.few_workers,
)

pub loop-line-preserved : goal.loop-line-preserved
loop-line-preserved g c = (
  so_far_wrong (g.W.Write.contents c.args.writer.now) (g.W.Write.contents c.loop-line.writer) (g.W.Write.contents c.report.new.writer)
      c.loop-line.block.items c.report.new.block.items c.args.script.now c.loop-line.rest.now c.in-Some.behind.now c.in-Some.line.now c.loop-line.number c.loop-line.phase c.in-Err.misfit c.loop-line.checked
      c.loop-line.invariant.0 c.in-Some.ensures.found c.in-Err.ensures.wrong c.in_ok-report-in-Err.ensures.ok,
  omega (arith, c.loop-line.invariant.1, c.in-Some.ensures.shorter),
  omega (arith, c.loop-line.invariant.2, c.report.ensures.capacity),
  c.loop-line.invariant.3,
)
