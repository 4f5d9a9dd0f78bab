-- What the block has at the end is written after what was.
use Rattle.std.proofs.Common.{subst}
use Rattle.ob_output.specs.Writing.{AppendsFront}
use Rattle.ob_scripts.proofs.Behind.{run_part}
use Rattle.ob_scripts.proofs.run.run_text.Goals as goal

pub returns-in-Ok-run_lines-clause-fault : goal.returns-in-Ok-run_lines-clause-fault
returns-in-Ok-run_lines-clause-fault g c =
    run_part (g.W.Write.contents c.args.writer.now) (g.W.Write.contents c.run_lines.new.writer) (g.W.Write.contents c.write_out.new.writer)
    c.args.script.now c.run_lines.new.block.items c.in-Ok-run_lines.ending c.in-Ok-run_lines.ensures.played
    (subst (AppendsFront (g.W.Write.contents c.run_lines.new.writer) (g.W.Write.contents c.write_out.new.writer)) c.as_slice.ensures.value c.in-Err-write_out.ensures.front)
