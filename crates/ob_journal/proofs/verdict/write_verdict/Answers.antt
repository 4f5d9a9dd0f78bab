-- After a fault of writing, a beginning of the verdict's line is written.
use Rattle.std.proofs.Common.{subst, string_bytes}
use Rattle.ob_journal.specs.Journal.{IsFault}
use Rattle.ob_output.specs.Writing.{AppendsFront}
use Rattle.ob_journal.specs.declared.verdict.Verdict.TheVariants.{Refused}
use Rattle.ob_journal.proofs.verdict.write_verdict.Goals as goal

pub returns-in_err-write_out-in-Err-Refused-clause-part : goal.returns-in_err-write_out-in-Err-Refused-clause-part
returns-in_err-write_out-in-Err-Refused-clause-part g c unwritten is_write = (
  Refused,
  string_bytes c.in_ok-line-in-Err-Refused.line,
  (c.in-Err-Refused.line, c.in-Err-Refused.cause, subst (IsFault c.args.journal.now) c.in-Err-Refused.field-0-is c.in-Err-Refused.ensures.fault, c.in_ok-line-in-Err-Refused.ensures),
  subst (λ bytes. AppendsFront (g.W.Write.contents c.args.writer.now) (g.W.Write.contents c.write_out-in-Err-Refused.new.writer) bytes) c.as_bytes-in-Err-Refused.ensures.value
      c.in_err-write_out-in-Err-Refused.ensures.front,
)
