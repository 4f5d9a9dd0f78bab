-- Where the end of the report isn't written, a beginning of the whole is.
use Rattle.std.proofs.Common.{subst}
use Rattle.ob_output.specs.Writing.{AppendsFront}
use Rattle.ob_check.proofs.Reported.{report_part}
use Rattle.ob_check.proofs.check.check_script.Goals as goal

pub returns-in_err-write_out-clause-part : goal.returns-in_err-write_out-clause-part
returns-in_err-write_out-clause-part g c unwritten is_write =
    report_part (g.W.Write.contents c.args.writer.now) (g.W.Write.contents c.report_lines.new.writer) (g.W.Write.contents c.write_out.new.writer)
    c.args.script.now c.report_lines.new.block.items c.in_ok-checked.checked c.in_ok-checked.ensures.reported
    (subst (AppendsFront (g.W.Write.contents c.report_lines.new.writer) (g.W.Write.contents c.write_out.new.writer)) c.as_slice.ensures.value c.in_err-write_out.ensures.front)
