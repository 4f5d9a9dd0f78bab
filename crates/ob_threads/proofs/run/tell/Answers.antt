-- A beginning of the line was written.
use Rattle.std.proofs.Common.{inr, refl, subst}
use Rattle.std.specs.Prelude.{codes}
use Rattle.ob_lines.specs.Lines.{lines_of}
use Rattle.ob_output.specs.Printed.{output_line}
use Rattle.ob_worker_lines.specs.Parts.{IsFault}
use Rattle.ob_threads.specs.declared.ends.ThreadsEnding.TheVariants as ending
use Rattle.ob_threads.proofs.run.tell.Goals as goal

pub returns-in-Err-clause-part : goal.returns-in-Err-clause-part
returns-in-Err-clause-part g c =
    inr (
      output_line c.in-BadLine.number (codes "not a script line"),
      ending.BadLine c.in-BadLine.number,
      (subst (IsFault (lines_of c.args.script.now)) c.in-BadLine.is c.requires, refl),
      c.in-Err.ensures.cut_off,
    )
